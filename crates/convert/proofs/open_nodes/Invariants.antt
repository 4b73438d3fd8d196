-- `convert::open_nodes` meets its contract. The invariant: the words of the nodes passed are written.
-- Assumes nothing.
use Rattle.std.proofs.Common.{◌≡◌, ◌*◌, take}
use Rattle.model.specs.Packed.{opened}
use Rattle.convert.proofs.open_nodes.Given as goal

abbrev pub invariant-loop-i : goal.invariant-loop-i
invariant-loop-i l = take (3 * l.i) l.words ≡ opened (take l.i l.nodes)
