-- `search::list::list_blocks` meets its contract. The invariant: the output lists the blocks passed.
-- Assumes nothing.
use Rattle.search.proofs.Listings.{Passed}
use Rattle.search.proofs.list.list_blocks.Given as goal

abbrev pub invariant-loop-passed : goal.invariant-loop-passed
invariant-loop-passed l = Passed l.marks.bytes.now l.found l.from l.listed l.initial.output l.to l.passed l.n l.output
