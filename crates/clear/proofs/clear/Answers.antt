-- `clear::clear` meets its promise: the question's answer decides between the old tables and the cleared ones.
-- Assumes nothing.
use Rattle.std.proofs.Common.{sym, ◌∙◌, ap, length}
use Rattle.model.specs.Packed.{packed_blocks, Packs}
use Rattle.tables.proofs.Fits.{packs_of}
use Rattle.clear.proofs.Filling.{rows_length, cleared_tables}
use Rattle.clear.proofs.Promised.{refuses_packed, refuses_packed_width, refuses_packed_lent, clears_packed}
use Rattle.clear.proofs.clear.Goals as goal
use Rattle.clear.proofs.clear.Goals.{then-not-lengths_fit-via-then-not-lengths_fit, then-not-lengths_fit-via-else-not-lengths_fit+then-not-is_width}

pub returns-then-not-lengths_fit-clause-promise : goal.returns-then-not-lengths_fit-clause-promise
returns-then-not-lengths_fit-clause-promise c =
    let e = sym c.lengths_fit.ensures in
    elim c.then-not-lengths_fit.branch [
      | then-not-lengths_fit-via-then-not-lengths_fit w ↦ refuses_packed _ _ _ _ (e ∙ w.if-not-lengths_fit.true)
      | then-not-lengths_fit-via-else-not-lengths_fit+then-not-is_width w ↦ refuses_packed_width _ _ _ _ (e ∙ w.if-not-lengths_fit.false) (sym w.is_width.ensures ∙ w.if-not-is_width.true)
    ]

pub returns-then-not-signatures_fit-clause-promise : goal.returns-then-not-signatures_fit-clause-promise
returns-then-not-signatures_fit-clause-promise c =
    refuses_packed_lent _ _ _ _ (sym c.lengths_fit.ensures ∙ c.if-not-lengths_fit.false) (sym c.is_width.ensures ∙ c.if-not-is_width.false)
    (rw c.packed_blocks-blocks.ensures at (sym c.signatures_fit.ensures ∙ c.if-not-signatures_fit.true))

pub returns-clause-promise : goal.returns-clause-promise
returns-clause-promise c =
    let t = c.args.tables.now in
    let B = packed_blocks t.links.now in
    let e = sym c.lengths_fit.ensures ∙ c.if-not-lengths_fit.false in
    let q = packs_of B (length t.links.now) (length t.nodes.now) e in
    let b = c.packed_blocks-blocks.ensures in
    let l = rw b at c.clear_links.ensures in
    let P : Packs B c.clear_links.new.links t.nodes.now = record { rows_long = ap length l ∙ rows_length B c.args.width; nodes_long = q.3 } in
    let P₁ : Packs c.packed_blocks-blocks.result c.clear_links.new.links t.nodes.now = rw b P in
    clears_packed t.signatures.now t.links.now t.nodes.now c.args.width e (sym c.is_width.ensures ∙ c.if-not-is_width.false)
    (rw b at (sym c.signatures_fit.ensures ∙ c.if-not-signatures_fit.false)) _ _ _ (c.fill.ensures.after (λ y h. h))
    (cleared_tables B c.args.width _ _ _ q.0 l P (rw b at (c.free_rest.ensures _ P₁))) c.clear_links.auto.links c.free_rest.auto.nodes
