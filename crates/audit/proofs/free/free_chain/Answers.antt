-- `audit::free::free_chain` meets its contract. The invariant: the rest of the chain gives what the whole chain gives.
-- Assumes nothing.
use native.Mathlib.Omega.{arith}
use mathlib.Core.Path.{sym, ◌∙◌}
use Rattle.audit.proofs.FreeLaws.{free_first, free_end, free_stop, free_go}
use Rattle.audit.proofs.InForm.{front_read}
use Rattle.audit.proofs.free.free_chain.Goals as goal

pub loop-init : goal.loop-init
loop-init g c = free_first _ _ _ _ 0 _ (c.first_free-node.ensures ∙ front_read (g.met.F.Form.fits c.args.form.now) c.rows.ensures 3 (omega arith))

pub returns-in_default : goal.returns-in_default
returns-in_default g c = sym (c.loop.invariant ∙ free_stop _ _ _ _ _ c.loop-test.true c.in_default.ensures)

pub loop-preserved : goal.loop-preserved
loop-preserved g c = c.loop.invariant ∙ free_go _ _ _ _ _ c.loop-test.true _ c.in-Some.ensures

pub returns : goal.returns
returns g c = sym (c.loop.invariant ∙ free_end _ _ _ _ _ c.loop-test.false)
