-- `split::Signed::split` meets its contract: a list parted at its best position has its sides there.
-- Assumes nothing.
use Rattle.split.proofs.Halves.{halve}
use Rattle.split.proofs.Signed.split.Goals as goal

pub returns : goal.returns
returns g c =
    halve _ _ _ _ _ _ c.best_position-position.ensures.best (rw c.best_position-position.ensures.width at c.partition-low.ensures)
