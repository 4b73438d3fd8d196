-- `withdraw::question::ask` meets its contract: at each return the answers so far say which question is the first with a no.
-- Assumes nothing.
use mathlib.Core.Path.{sym, ◌∙◌}
use Rattle.withdraw.proofs.Asked.{refuses_5, refuses_8, refuses_none, passes}
use Rattle.withdraw.proofs.question.ask.Goals as goal

pub returns-then-not-is_block-clause-number : goal.returns-then-not-is_block-clause-number
returns-then-not-is_block-clause-number c = refuses_5 c.args.tables.now _ _ c.blocks-2.ensures (sym c.is_block.ensures ∙ c.if-not-is_block.true)

pub returns-then-filed_of-eq0-clause-number : goal.returns-then-filed_of-eq0-clause-number
returns-then-filed_of-eq0-clause-number c = refuses_8 c.args.tables.now _ _ c.blocks-2.ensures (sym c.is_block.ensures ∙ c.if-not-is_block.false) _ c.filed_of.ensures c.if-filed_of-eq0.true

pub returns-clause-number : goal.returns-clause-number
returns-clause-number c = refuses_none c.args.tables.now _ _ c.blocks-2.ensures (sym c.is_block.ensures ∙ c.if-not-is_block.false) _ c.filed_of.ensures c.if-filed_of-eq0.false

pub returns-clause-passed : goal.returns-clause-passed
returns-clause-passed c = passes c.args.tables.now _ _ c.blocks-2.ensures (sym c.is_block.ensures ∙ c.if-not-is_block.false) _ c.filed_of.ensures c.if-filed_of-eq0.false
