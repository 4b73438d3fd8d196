-- `rebuild::collect::collect` meets its contract: nothing, one head, or the heads of the two sides. The measure is the number of
-- untested positions.
-- Assumes nothing.
use Rattle.rebuild.proofs.collect.+collect.Given as goal

abbrev pub decreases-collect : goal.decreases-collect
decreases-collect l = l.untested
