-- `tables::TablesMut::set_count` meets its contract: a store in front.
-- Assumes nothing.
use native.Mathlib.Omega.{arith}
use mathlib.Core.Path.{refl}
use Rattle.tables.proofs.Lending.{row_stored}
use Rattle.tables.proofs.lent.TablesMut.set_count.Goals as goal

pub returns : goal.returns
returns c = row_stored c.args.self.now c.requires _ _ _ (omega arith) refl
