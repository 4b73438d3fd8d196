-- The words passed are covered.
-- Assumes nothing.
use Rattle.signature.proofs.Wide.{From, covers_word}
use Rattle.signature.proofs.wanted.Wanted.is_covered_by.Given as goal

abbrev pub invariant-loop-i : goal.invariant-loop-i
invariant-loop-i l = From covers_word l.signature l.self.words.now l.i
