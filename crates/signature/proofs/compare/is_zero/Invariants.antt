-- The words passed are 0.
-- Assumes nothing.
use Rattle.signature.proofs.Wide.{Zeros}
use Rattle.signature.proofs.compare.is_zero.Given as goal

abbrev pub invariant-loop-word : goal.invariant-loop-word
invariant-loop-word l = Zeros l.signature l.word-index
