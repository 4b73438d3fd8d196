-- `convert::close_nodes` meets its contract. The invariant: the nodes before node `node` are packed.
-- Assumes nothing.
use Rattle.std.proofs.Common.{◌≡◌, ◌-◌, length}
use Rattle.std.proofs.Math.Seq.{paste}
use Rattle.model.specs.Packed.{packed_nodes}
use Rattle.tables.specs.Rows.{numbers}
use Rattle.convert.proofs.close_nodes.Given as goal

abbrev pub invariant-loop-node : goal.invariant-loop-node
invariant-loop-node l =
    l.nodes ≡ paste l.initial.nodes 0 (packed_nodes (length (numbers l.tables.rows)) l.tables.rows.links.now) (l.node - 1)
