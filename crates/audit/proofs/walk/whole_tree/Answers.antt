-- `audit::walk::whole_tree` meets its contract: no tree, or the walk from the root, below an empty path.
-- Assumes nothing.
use Rattle.audit.proofs.InForm.{none_read, tree_read}
use Rattle.audit.proofs.PathWords.{no_path}
use Rattle.audit.proofs.walk.whole_tree.Goals as goal

pub returns-then-root-eq0 : goal.returns-then-root-eq0
returns-then-root-eq0 g c = none_read (g.met.F.Form.fits c.args.form.now) c.rows-rows.ensures c.root-root.ensures _ c.if-root-eq0.true

pub returns : goal.returns
returns g c =
    tree_read (g.met.F.Form.fits c.args.form.now) c.rows-rows.ensures c.root-root.ensures _ c.if-root-eq0.false c.width.ensures.value (no_path (g.F.Form.links c.args.form.now) 8) c.walk.ensures.fit
