-- `search::buffers_fit` meets its contract: at each return the tests that led there say which question refuses.
-- Assumes nothing.
use Rattle.search.proofs.Asking.{says_marks, says_output, says_none}
use Rattle.search.proofs.buffers_fit.Goals as goal

pub returns-then-marks-blocks : goal.returns-then-marks-blocks
returns-then-marks-blocks c = says_marks _ _ c.args.output c.if-marks-blocks.true

pub returns-then-output-blocks : goal.returns-then-output-blocks
returns-then-output-blocks c = says_output _ _ _ c.if-marks-blocks.false c.if-output-blocks.true

pub returns : goal.returns
returns c = says_none _ _ _ c.if-marks-blocks.false c.if-output-blocks.false
