-- `tables::TablesMut::set_next` meets its contract: a store in a row.
-- Assumes nothing.
use native.Mathlib.Omega.{arith}
use Rattle.tables.proofs.Lending.{row_stored}
use Rattle.tables.proofs.lent.TablesMut.set_next.Goals as goal

pub returns : goal.returns
returns c = row_stored c.args.self.now c.requires.0 _ _ _ (let b = c.requires.1 in omega arith) c.set_next.ensures
