-- `audit::audit_unpacked` meets its contract: question 4's no is passed on, and 11 is asked of the links themselves.
-- Assumes nothing.
use Rattle.audit.proofs.Asked.{unfit_unpacked, answered_unpacked}
use Rattle.audit.proofs.audit_unpacked.Goals as goal

pub returns-in_err-tables : goal.returns-in_err-tables
returns-in_err-tables c = unfit_unpacked _ _ _ c.in_err-tables.was c.from_residual.ensures c.of.ensures.asked

pub returns : goal.returns
returns c = answered_unpacked c.in_ok-tables.ensures.read c.sound.ensures
