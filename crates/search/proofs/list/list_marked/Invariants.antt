-- `search::list::list_marked` meets its contract. The invariant: the output lists the blocks of the runs passed.
-- Assumes nothing.
use Prim.Native.Nat.{◌*◌}
use Rattle.search.specs.Marks.{ListedPart}
use Rattle.search.proofs.list.list_marked.Given as goal

abbrev pub invariant-loop-run : goal.invariant-loop-run
invariant-loop-run l = ListedPart l.marks.bytes.now l.found 0 0 l.initial.output (l.run * 64) l.n l.output
