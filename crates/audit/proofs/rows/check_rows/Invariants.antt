-- `audit::rows::check_rows` meets its contract. The invariant: the rows so far are fit, and the count is of them.
-- Assumes nothing.
use Rattle.tables.specs.Rows.{numbers}
use Rattle.audit.proofs.RowLaws.{RowsTo}
use Rattle.audit.proofs.rows.check_rows.Given as goal

abbrev pub invariant-loop-block : goal.invariant-loop-block
invariant-loop-block l = RowsTo (numbers l.rows) l.rows.links.now l.block l.count
