-- `convert::close_nodes` meets its contract. The invariant: the nodes before node `node` are packed.
-- Assumes nothing.
use Rattle.std.proofs.Common.{arith, length}
use Rattle.tables.specs.Rows.{numbers}
use Rattle.convert.proofs.Closing.{close_turn, close_end, close_parts, close_stored}
use Rattle.convert.proofs.close_nodes.Goals as goal

pub set_node-requires-clause-parts_fit : goal.set_node-requires-clause-parts_fit
set_node-requires-clause-parts_fit c =
    let t = c.args.tables.now in
    let fit = c.requires.nodes_fit c.loop-node.node c.loop-node.auto.node (omega arith) in
    let parts = close_parts c.node.ensures in
    (omega (arith, fit.position, parts.position), omega (arith, fit.left, parts.left), omega (arith, fit.right, parts.right))

pub loop-node-preserved : goal.loop-node-preserved
loop-node-preserved c =
    let t = c.args.tables.now in
    close_turn (length (numbers t.rows)) t.rows.links.now c.args.nodes.now _ _ c.loop-node.node t.fits.fits.blocks_from t.fits.fits.links_long c.requires.length c.loop-node.auto.node (omega arith) c.loop-node.invariant
    (close_stored (close_parts c.node.ensures) _ _ _ c.set_node.ensures)

pub returns : goal.returns
returns c =
    let t = c.args.tables.now in
    close_end (length (numbers t.rows)) t.rows.links.now c.args.nodes.now _ c.loop-node.node t.fits.fits.blocks_from t.fits.fits.links_long c.requires.length (omega arith) c.loop-node.invariant
