-- A query of one word: the bit at a position is found by a shift by less than 64.
-- Assumes nothing.
use Rattle.search.proofs.Words.{one_side}
use Rattle.search.proofs.sought.U64Sought.goes_right.Goals as goal

pub returns : goal.returns
returns c = one_side c.args.width c.args.self c.args.position c.requires.1
