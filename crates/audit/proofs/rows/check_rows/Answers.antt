-- `audit::rows::check_rows` meets its contract. The invariant: the rows so far are fit, and the count is of them.
-- Assumes nothing.
use native.Mathlib.Omega.{arith}
use mathlib.Core.Path.{sym, ◌∙◌}
use Rattle.audit.proofs.RowLaws.{row_yes, rows_first, rows_next, rows_fail, rows_end}
use Rattle.audit.proofs.rows.check_rows.Goals as goal

pub loop-block-init : goal.loop-block-init
loop-block-init c = rows_first _ _

pub returns-then-not-row_fits : goal.returns-then-not-row_fits
returns-then-not-row_fits c =
    rows_fail _ _ _ _ c.loop-block.invariant c.width-width.ensures.value c.signature_of.ensures.number c.next_of.ensures c.filed_of-filed.ensures (omega arith) (sym c.row_fits.ensures ∙ c.if-not-row_fits.true)

pub overflow_add-count : goal.overflow_add-count
overflow_add-count c = omega (arith, (row_yes _ _ _ _ (sym c.row_fits.ensures ∙ c.if-not-row_fits.false)).bit)

pub loop-block-preserved : goal.loop-block-preserved
loop-block-preserved c =
    rows_next _ _ _ _ c.loop-block.invariant c.width-width.ensures.value c.signature_of.ensures.number c.next_of.ensures c.filed_of-filed.ensures (sym c.row_fits.ensures ∙ c.if-not-row_fits.false)

pub returns-else-not-row_fits : goal.returns-else-not-row_fits
returns-else-not-row_fits c =
    rows_end _ _ _ _ (rows_next _ _ _ _ c.loop-block.invariant c.width-width.ensures.value c.signature_of.ensures.number c.next_of.ensures c.filed_of-filed.ensures (sym c.row_fits.ensures ∙ c.if-not-row_fits.false)) (omega arith)
