-- The words passed agree under the mask.
-- Assumes nothing.
use lib.Dec.{eqb}
use Rattle.signature.proofs.Wide.{From, and_words}
use Rattle.signature.proofs.compare.agrees.Given as goal

abbrev pub invariant-loop-i : goal.invariant-loop-i
invariant-loop-i l = From eqb (and_words l.signature l.mask) l.edges l.i
