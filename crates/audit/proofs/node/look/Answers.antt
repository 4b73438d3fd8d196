-- `audit::node::look` meets its contract: each return is a part of the test of a node.
-- Assumes nothing.
use mathlib.Core.Path.{sym, ◌∙◌}
use Rattle.audit.proofs.InForm.{node_far, node_none, node_tested, node_made}
use Rattle.audit.proofs.node.look.Goals as goal

pub returns-then-blocks-node-clause-fit : goal.returns-then-blocks-node-clause-fit
returns-then-blocks-node-clause-fit g c = node_far (g.met.F.Form.fits _) c.rows-rows.ensures c.blocks-2.ensures _ _ c.if-blocks-node.true

pub returns-in_err-position-clause-fit : goal.returns-in_err-position-clause-fit
returns-in_err-position-clause-fit g c =
    rw c.from_residual.ensures
    (node_none (g.met.F.Form.fits _) c.rows-rows.ensures c.blocks-2.ensures c.if-blocks-node.false c.node-position.ensures c.width.ensures.value _ c.in_err-position.ensures.none)

pub returns-then-is_set-clause-fit : goal.returns-then-is_set-clause-fit
returns-then-is_set-clause-fit g c =
    node_tested (g.met.F.Form.fits _) c.rows-rows.ensures c.blocks-2.ensures c.if-blocks-node.false c.node-position.ensures c.width.ensures.value c.in_ok-position.position c.in_ok-position.ensures.some _ (sym c.is_set.ensures ∙ c.if-is_set.true)

pub returns-clause-fit : goal.returns-clause-fit
returns-clause-fit g c =
    node_made (g.met.F.Form.fits _) c.rows-rows.ensures c.blocks-2.ensures c.if-blocks-node.false c.node-position.ensures c.width.ensures.value c.in_ok-position.position c.in_ok-position.ensures.some _ (sym c.is_set.ensures ∙ c.if-is_set.false)
