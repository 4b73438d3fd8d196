-- The words passed are equal.
-- Assumes nothing.
use lib.Dec.{eqb}
use Rattle.signature.proofs.Wide.{From}
use Rattle.signature.proofs.compare.same.Given as goal

abbrev pub invariant-loop-i : goal.invariant-loop-i
invariant-loop-i l = From eqb l.a l.b l.i
