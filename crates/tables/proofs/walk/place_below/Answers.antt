-- `tables::walk::place_below` meets its contract: the side is that of the bit at the node's position.
-- Assumes nothing.
use Rattle.tables.proofs.Edges.{side_of_bit}
use Rattle.tables.proofs.Reached.{passed_below}
use Rattle.tables.proofs.walk.place_below.Goals as goal

pub returns-clause-address : goal.returns-clause-address
returns-clause-address g c B links P =
    passed_below B c.args.width links _ P (g.S.Positions.number c.args.signature) _ c.if-node-eq0.false _ _ c.word_of.ensures c.position_in.ensures _ (side_of_bit _ _ _ _ _ c.is_set.ensures c.into-side.ensures)
