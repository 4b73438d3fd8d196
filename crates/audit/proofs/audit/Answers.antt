-- `audit::audit` meets its contract: question 4's no is passed on.
-- Assumes nothing.
use Rattle.audit.proofs.Asked.{unfit_packed}
use Rattle.audit.proofs.audit.Goals as goal

pub returns-in_err-tables : goal.returns-in_err-tables
returns-in_err-tables c = unfit_packed _ _ _ c.in_err-tables.was c.from_residual.ensures _ c.of.ensures.asked
