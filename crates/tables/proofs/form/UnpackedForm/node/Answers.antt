-- `tables::form::UnpackedForm::node` meets its contract: the three words behind the rows are the node's.
-- Assumes nothing.
use mathlib.Core.List.{[]}
use mathlib.Core.Path.{refl}
use lib.ListN.{length}
use Rattle.tables.specs.Rows.{numbers}
use Rattle.tables.proofs.Either.{old_parts}
use Rattle.tables.proofs.form.UnpackedForm.node.Goals as goal

pub returns : goal.returns
returns c = let rows = c.args.self.now.rows in rw c.blocks-2.ensures (old_parts (length (numbers rows)) rows.links.now [] c.args.node refl)
