-- `sigtree::slip::field_words` meets its contract: question 4 says whether there is a field, and the rows how many words it has.
-- Assumes nothing.
use Rattle.sigtree.proofs.Told.{told_none, told_some}
use Rattle.sigtree.proofs.slip.field_words.Goals as goal

pub returns-in-Ok : goal.returns-in-Ok
returns-in-Ok c = told_some c.args.tables.now c.in-Ok.read (rw c.in-Ok.is at c.read.ensures.asked) (rw c.in-Ok.is at c.read.ensures.read)

pub returns-in-Err : goal.returns-in-Err
returns-in-Err c = told_none c.args.tables.now c.in-Err.field-0 (rw c.in-Err.is at c.read.ensures.asked)
