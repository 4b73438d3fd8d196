-- `split::Signed::partition` meets its contract: before `low` the bit is 0, from `end` on it is 1, and entries only change places.
-- Assumes nothing.
use Rattle.std.proofs.Common.{◌-◌}
use Rattle.model.specs.Tables.{signature_of}
use Rattle.split.proofs.Parting.{Parting}
use Rattle.split.proofs.Signed.partition.Given as goal

abbrev pub invariant-loop-low : goal.invariant-loop-low
invariant-loop-low g l = Parting l.position.width (signature_of (g.S.Signatures.numbers l.self.signatures)) l.position.number l.initial.group l.group l.low l.end

abbrev pub decreases-loop-low : goal.decreases-loop-low
decreases-loop-low g l = l.end - l.low
