-- `tables::TablesMut::set_reference` meets its contract: a store in front, or to a side of a node.
-- Assumes nothing.
use native.Mathlib.Omega.{arith}
use mathlib.Core.Path.{refl}
use Rattle.tables.proofs.Lending.{row_stored, side_stored}
use Rattle.tables.proofs.lent.TablesMut.set_reference.Goals as goal

pub returns-in-Root : goal.returns-in-Root
returns-in-Root c = rw c.in-Root.is (row_stored c.args.self.now c.requires.0 _ _ _ (omega arith) refl)

pub returns-in-Below : goal.returns-in-Below
returns-in-Below c =
    let h = rw c.in-Below.is at c.requires.1 in
    rw c.in-Below.is (side_stored c.args.self.now c.requires.0 _ h.0 h.1 c.in-Below.side _ _ c.requires.2 c.with_side.ensures)
