-- `search::list::list_whole_run` meets its contract. The invariant: the output lists the blocks passed.
-- Assumes nothing.
use Prim.Native.Nat.{◌+◌}
use Rattle.search.proofs.Listings.{Passed}
use Rattle.search.proofs.list.list_whole_run.Given as goal

abbrev pub invariant-loop-passed : goal.invariant-loop-passed
invariant-loop-passed l = Passed l.marks.bytes.now l.found l.from l.listed l.initial.output (l.from + 64) l.passed l.n l.output
