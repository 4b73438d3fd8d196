-- `search::walk::Query::walk` meets its contract: it calls itself on each side that is a node, and the measure is the number of untested
-- positions. The tests before the sides are visited make `AtNode`; from there each return is the sides in their order.
-- Assumes nothing.
use Rattle.search.proofs.walk.Query.+walk.Given as goal

abbrev pub decreases-walk : goal.decreases-walk
decreases-walk g l = l.untested
