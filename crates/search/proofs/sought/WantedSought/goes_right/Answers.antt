-- A query of words: the bit at a position is found in the word that holds it, or in the high word where none does.
-- Assumes nothing.
use Rattle.search.proofs.Words.{many_side}
use Rattle.search.proofs.sought.WantedSought.goes_right.Goals as goal

pub returns : goal.returns
returns c = many_side c.args.width c.args.position c.args.self.words.now c.args.self.fits c.requires.0 c.requires.1 _ c.saturating_sub.ensures
