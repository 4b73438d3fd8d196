-- After i turns the first i words are copied.
use Rattle.std.proofs.Common.{◌≡◌, take}
use Rattle.words.proofs.signer.copy_words.Given as goal

abbrev pub invariant-loop-i : goal.invariant-loop-i
invariant-loop-i l = take l.i l.to ≡ take l.i l.from
