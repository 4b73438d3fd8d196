-- `tables::TablesMut::set_node` meets its contract: a store of all of a node.
-- Assumes nothing.
use Rattle.tables.proofs.Sided.{by_side_word}
use Rattle.tables.proofs.Lending.{node_stored}
use Rattle.tables.proofs.lent.TablesMut.set_node.Goals as goal

pub returns : goal.returns
returns c =
    let r = c.requires.parts_fit in
    let n = c.requires.node_inside in
    node_stored c.args.self.now n.0 _ n.1 n.2 c.args.side _ _ _ _ _ r.1 r.2 (by_side_word _ _ _ _ _ c.by_side.ensures) c.set_node.ensures
