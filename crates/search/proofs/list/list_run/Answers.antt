-- `search::list::list_run` meets its contract: a run without a mark lists nothing, and either loop lists the rest.
-- Assumes nothing.
use Rattle.search.proofs.Listings.{part_run}
use Rattle.search.proofs.list.list_run.Goals as goal

pub returns-then-none_marked : goal.returns-then-none_marked
returns-then-none_marked c = part_run _ _ _ _ _ (c.none_marked.ensures c.if-none_marked.true)
