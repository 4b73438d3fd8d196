-- `tables::TablesMut::count` meets its contract: the word is that of the links.
-- Assumes nothing.
use native.Mathlib.Omega.{arith}
use Rattle.tables.proofs.Lending.{row_read}
use Rattle.tables.proofs.lent.TablesMut.count.Goals as goal

pub returns : goal.returns
returns c = row_read c.args.self.now c.requires 4 (omega arith)
