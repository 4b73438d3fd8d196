-- `audit::answer::is_sound` meets its contract: each return is a step of the verdict.
-- Assumes nothing.
use Rattle.audit.proofs.InForm.{rows_read, count_read, unfit_tree, blocks_left, free_left}
use Rattle.audit.proofs.answer.is_sound.Goals as goal

pub returns-in_default : goal.returns-in_default
returns-in_default g c = rows_read (g.met.F.Form.fits c.args.form.now) c.rows-rows.ensures c.in_default.ensures

pub returns-then-filed-count : goal.returns-then-filed-count
returns-then-filed-count g c = count_read (g.met.F.Form.fits c.args.form.now) c.rows-rows.ensures c.in-Some.ensures c.count.ensures c.if-filed-count.true

pub returns-in-None : goal.returns-in-None
returns-in-None g c = unfit_tree (g.met.F.Form.fits c.args.form.now) c.rows-rows.ensures c.in-Some.ensures c.count.ensures c.if-filed-count.false c.blocks-2.ensures c.in-None.ensures

pub returns-else-left-eq0 : goal.returns-else-left-eq0
returns-else-left-eq0 g c = blocks_left (g.met.F.Form.fits c.args.form.now) c.rows-rows.ensures c.in-Some.ensures c.count.ensures c.if-filed-count.false c.blocks-2.ensures c.in-Some-whole_tree.ensures c.if-left-eq0.false

pub returns-then-left-eq0 : goal.returns-then-left-eq0
returns-then-left-eq0 g c = free_left (g.met.F.Form.fits c.args.form.now) c.rows-rows.ensures c.in-Some.ensures c.count.ensures c.if-filed-count.false c.blocks-2.ensures c.in-Some-whole_tree.ensures c.if-left-eq0.true c.free_chain.ensures
