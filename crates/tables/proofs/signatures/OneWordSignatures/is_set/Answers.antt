-- `tables::signatures::OneWord` reads a position of the block's number: with one word to a signature, the words are the numbers.
-- Assumes nothing.
use Rattle.std.proofs.Common.{ℕ, List, ap, arith, length}
use Rattle.tables.proofs.Rowed.{one_numbers}
use Rattle.tables.proofs.signatures.OneWordSignatures.is_set.Goals as goal

pub bounds-self-block : goal.bounds-self-block
bounds-self-block c =
    let e = ap (λ (l : List ℕ). length l) (one_numbers c.args.self.rows c.args.self.one) in
    omega (arith, c.requires.block_inside)

pub returns : goal.returns
returns c = rw (one_numbers c.args.self.rows c.args.self.one) c.is_set.ensures
