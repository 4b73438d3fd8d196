-- `tables::Rows::blocks` meets its contract: there are as many numbers as blocks.
-- Assumes nothing.
use mathlib.Core.Path.{sym}
use Rattle.model.proofs.Wide.{signatures_length}
use Rattle.tables.proofs.rows.Rows.blocks.Goals as goal

pub returns : goal.returns
returns c = let r = c.args.self.now in sym (signatures_length r.words r.blocks r.signatures.now)
