-- `split::reference` meets its contract: the cases of its size.
-- Assumes nothing.
use Rattle.std.proofs.Common.{arith}
use Rattle.split.proofs.Halves.{none_to, one_to, more_to}
use Rattle.split.proofs.reference.Goals as goal

pub returns-in-0 : goal.returns-in-0
returns-in-0 c = none_to _ _ _ c.in-0.is

pub returns-in-1 : goal.returns-in-1
returns-in-1 c = one_to _ _ _ c.in-1.is

pub returns-in_default : goal.returns-in_default
returns-in_default c = more_to _ _ _ (omega arith)
