-- `tables::TablesMut::next_of` meets its contract: the word is that of the links.
-- Assumes nothing.
use native.Mathlib.Omega.{arith}
use mathlib.Core.Path.{◌∙◌}
use Rattle.tables.proofs.Lending.{row_read}
use Rattle.tables.proofs.lent.TablesMut.next_of.Goals as goal

pub returns : goal.returns
returns c = c.next_of.ensures ∙ row_read c.args.self.now c.requires.0 _ (let b = c.requires.1 in omega arith)
