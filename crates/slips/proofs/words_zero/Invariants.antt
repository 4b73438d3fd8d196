-- After i turns the number in the first i words is 0.
use Rattle.std.proofs.Common.{◌≡◌, ◌*◌}
use Rattle.model.specs.Questions.{number_at}
use Rattle.slips.proofs.words_zero.Given as goal

abbrev pub invariant-loop-i : goal.invariant-loop-i
invariant-loop-i l = number_at l.slip 8 (8 * l.i) ≡ 0
