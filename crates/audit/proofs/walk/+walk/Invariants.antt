-- The cycle of calls {walk} meets its contract: each return is a step of `walk_twin`. The measure is the number of untested positions.
-- Assumes nothing.
use Rattle.audit.proofs.walk.+walk.Given as goal

abbrev pub decreases-walk : goal.decreases-walk
decreases-walk g l = l.untested
