-- The cycle of calls {walk} meets its contract: each return is a step of `walk_twin`. The measure is the number of untested positions.
-- Assumes nothing.
use Prim.Native.Nat.{ℕ}
use mathlib.Core.Path.{◌≡◌, sym, ◌∙◌, ap, ap₂}
use mathlib.Core.List.{List}
use Rattle.model.specs.Tables.{width_of}
use Rattle.model.specs.Wide.{word_count}
use Rattle.tables.specs.declared.rows.Rows.{Rows}
use Rattle.tables.specs.Rows.{numbers}
use Rattle.audit.specs.declared.walk.Path.{Path}
use Rattle.audit.specs.Audit.{weighed}
use Rattle.audit.proofs.InForm.{leaf_read, ends_read, unfit_read, stop_read, both_read}
use Rattle.audit.proofs.PathWords.{left_path, right_path, restored}
use Rattle.audit.proofs.walk.+walk.Goals as goal

-- the words that a signature of the form has
words : (r : Rows) {sigs links : List ℕ} → (numbers r ≡ sigs) × (r.links.now ≡ links) → r.words ≡ word_count (width_of links)
words r same = r.fit.each ∙ ap (λ (l : List ℕ). word_count (width_of l)) same.1

pub returns-then-at-blocks-clause-fit : goal.returns-then-at-blocks-clause-fit
returns-then-at-blocks-clause-fit g t c = leaf_read (g.met.F.Form.fits c.args.form.now) c.rows-rows.ensures c.blocks-blocks.ensures _ _ _ _ c.leaf.ensures c.if-at-blocks.true

pub returns-then-untested-eq0-clause-fit : goal.returns-then-untested-eq0-clause-fit
returns-then-untested-eq0-clause-fit g t c = ends_read (g.met.F.Form.fits c.args.form.now) c.rows-rows.ensures c.blocks-blocks.ensures _ _ _ _ c.if-at-blocks.false c.then-untested-eq0.either

pub returns-in_err-node-clause-fit : goal.returns-in_err-node-clause-fit
returns-in_err-node-clause-fit g t c =
    c.from_residual.ensures
    ∙ unfit_read (g.met.F.Form.fits c.args.form.now) c.rows-rows.ensures c.blocks-blocks.ensures _ _ _ _ c.if-at-blocks.false c.if-untested-eq0.false c.if-lent-eq0.false (rw (words c.rows-rows.result c.rows-rows.ensures) at c.look.ensures.fit) (ap weighed c.in_err-node.was)

pub returns-in_err-rest-clause-fit : goal.returns-in_err-rest-clause-fit
returns-in_err-rest-clause-fit g t c =
    c.from_residual-in_err-rest.ensures
    ∙ stop_read (g.met.F.Form.fits c.args.form.now) c.rows-rows.ensures c.blocks-blocks.ensures _ _ _ _ c.if-at-blocks.false c.if-untested-eq0.false c.if-lent-eq0.false (rw (words c.rows-rows.result c.rows-rows.ensures) at c.look.ensures.fit) (ap weighed c.in_ok-node.was) (left_path (g.F.Form.links c.args.form.now) _ (words c.rows-rows.result c.rows-rows.ensures) c.args.path.now _ _ c.set-tested.ensures.long c.set-tested.ensures.number) c.walk.ensures.fit c.in_err-rest.was

pub returns-in_err-left-clause-fit : goal.returns-in_err-left-clause-fit
returns-in_err-left-clause-fit g t c =
    c.from_residual-in_err-left.ensures ∙ sym c.in_err-left.was
    ∙ both_read (g.met.F.Form.fits c.args.form.now) c.rows-rows.ensures c.blocks-blocks.ensures _ _ _ _ c.if-at-blocks.false c.if-untested-eq0.false c.if-lent-eq0.false (rw (words c.rows-rows.result c.rows-rows.ensures) at c.look.ensures.fit) (ap weighed c.in_ok-node.was) (left_path (g.F.Form.links c.args.form.now) _ (words c.rows-rows.result c.rows-rows.ensures) c.args.path.now _ _ c.set-tested.ensures.long c.set-tested.ensures.number) c.walk.ensures.fit c.in_ok-rest.was (right_path (g.F.Form.links c.args.form.now) _ (words c.rows-rows.result c.rows-rows.ensures) c.args.path.now _ _ c.set-tested.ensures.long c.set-tested.ensures.number c.walk.new.path c.in_ok-rest.ensures.back _ c.set-taken.ensures.long c.set-taken.ensures.number) c.walk-2.ensures.fit

pub returns-clause-fit : goal.returns-clause-fit
returns-clause-fit g t c =
    sym c.in_ok-left.was
    ∙ both_read (g.met.F.Form.fits c.args.form.now) c.rows-rows.ensures c.blocks-blocks.ensures _ _ _ _ c.if-at-blocks.false c.if-untested-eq0.false c.if-lent-eq0.false (rw (words c.rows-rows.result c.rows-rows.ensures) at c.look.ensures.fit) (ap weighed c.in_ok-node.was) (left_path (g.F.Form.links c.args.form.now) _ (words c.rows-rows.result c.rows-rows.ensures) c.args.path.now _ _ c.set-tested.ensures.long c.set-tested.ensures.number) c.walk.ensures.fit c.in_ok-rest.was (right_path (g.F.Form.links c.args.form.now) _ (words c.rows-rows.result c.rows-rows.ensures) c.args.path.now _ _ c.set-tested.ensures.long c.set-tested.ensures.number c.walk.new.path c.in_ok-rest.ensures.back _ c.set-taken.ensures.long c.set-taken.ensures.number) c.walk-2.ensures.fit

pub returns-clause-back : goal.returns-clause-back
returns-clause-back g t c =
    let W = c.rows-rows.result.words in
    let rest = c.in_ok-rest.ensures.back in
    let left = c.in_ok-left.ensures.back in
    ap₂ (λ (m e : List ℕ). record { mask = m; edges = e })
    (restored W _ _ _ _ _ _ c.set-tested.ensures.long c.set-tested.ensures.back (ap (λ (p : Path). p.mask) left ∙ ap (λ (p : Path). p.mask) rest) c.put_back.ensures)
    (restored W _ _ _ _ _ _ c.set-taken.ensures.long c.set-taken.ensures.back (ap (λ (p : Path). p.edges) left) c.put_back-2.ensures ∙ ap (λ (p : Path). p.edges) rest)
