-- After i turns the first i words are the slip's.
use Rattle.std.proofs.Common.{◌≡◌, take}
use Rattle.model.specs.Questions.{words_at}
use Rattle.slips.proofs.read_words.Given as goal

abbrev pub invariant-loop-i : goal.invariant-loop-i
invariant-loop-i l = take l.i l.field ≡ words_at l.slip 8 l.i
