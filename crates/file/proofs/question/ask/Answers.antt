-- `file::question::ask` meets its contract: at each return the answers so far say which question is the first with a no.
-- Assumes nothing.
use mathlib.Core.Path.{sym, ◌∙◌}
use Rattle.file.proofs.Asked.{refuses_4, refuses_5, refuses_6, refuses_7, refuses_none, passes}
use Rattle.file.proofs.question.ask.Goals as goal

pub returns-then-signature-rows-clause-number : goal.returns-then-signature-rows-clause-number
returns-then-signature-rows-clause-number c = refuses_4 c.args.tables.now _ _ c.if-signature-rows.true

pub returns-then-not-is_block-clause-number : goal.returns-then-not-is_block-clause-number
returns-then-not-is_block-clause-number c = refuses_5 c.args.tables.now _ _ c.if-signature-rows.false _ c.blocks-2.ensures (sym c.is_block.ensures ∙ c.if-not-is_block.true)

pub returns-then-not-fits-clause-number : goal.returns-then-not-fits-clause-number
returns-then-not-fits-clause-number c = refuses_6 c.args.tables.now _ _ c.if-signature-rows.false _ c.blocks-2.ensures (sym c.is_block.ensures ∙ c.if-not-is_block.false) _ c.width.ensures.value (sym c.fits.ensures ∙ c.if-not-fits.true)

pub returns-then-filed_of-ne0-clause-number : goal.returns-then-filed_of-ne0-clause-number
returns-then-filed_of-ne0-clause-number c = refuses_7 c.args.tables.now _ _ c.if-signature-rows.false _ c.blocks-2.ensures (sym c.is_block.ensures ∙ c.if-not-is_block.false) _ c.width.ensures.value (sym c.fits.ensures ∙ c.if-not-fits.false) _ c.filed_of.ensures c.if-filed_of-ne0.true

pub returns-clause-number : goal.returns-clause-number
returns-clause-number c = refuses_none c.args.tables.now _ _ c.if-signature-rows.false _ c.blocks-2.ensures (sym c.is_block.ensures ∙ c.if-not-is_block.false) _ c.width.ensures.value (sym c.fits.ensures ∙ c.if-not-fits.false) _ c.filed_of.ensures c.if-filed_of-ne0.false

pub returns-clause-passed : goal.returns-clause-passed
returns-clause-passed c = passes c.args.tables.now _ _ c.if-signature-rows.false _ c.blocks-2.ensures (sym c.is_block.ensures ∙ c.if-not-is_block.false) _ c.width.ensures.value (sym c.fits.ensures ∙ c.if-not-fits.false) _ c.filed_of.ensures c.if-filed_of-ne0.false
