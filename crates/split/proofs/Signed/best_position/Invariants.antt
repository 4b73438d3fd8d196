-- `split::Signed::best_position` meets its contract: the best of the positions passed, tried against those to come, is the best of all.
-- Assumes nothing.
use mathlib.Core.Path.{◌≡◌}
use Rattle.model.specs.Tables.{signature_of}
use Rattle.split.proofs.Best.{Trying}
use Rattle.split.proofs.Signed.best_position.Given as goal

abbrev pub invariant-loop-number : goal.invariant-loop-number
invariant-loop-number g l = Trying l.self.width (signature_of (g.S.Signatures.numbers l.self.signatures)) l.group l.number l.best.number l.size × (l.best.width ≡ l.self.width)
