-- `split::build` meets its contract: it calls itself on each half of the group, whose nodes follow its own. The measure is the
-- group's length.
-- Assumes nothing.
use lib.ListN.{length}
use Rattle.split.proofs.+build.Given as goal

abbrev pub decreases-build : goal.decreases-build
decreases-build l = length l.group.now
