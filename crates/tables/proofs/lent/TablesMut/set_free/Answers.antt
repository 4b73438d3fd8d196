-- `tables::TablesMut::set_free` meets its contract: a store in front.
-- Assumes nothing.
use native.Mathlib.Omega.{arith}
use Rattle.tables.proofs.Lending.{row_stored}
use Rattle.tables.proofs.lent.TablesMut.set_free.Goals as goal

pub returns : goal.returns
returns c = row_stored c.args.self.now c.requires _ _ _ (omega arith) c.set_free.ensures
