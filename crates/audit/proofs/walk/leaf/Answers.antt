-- `audit::walk::leaf` meets its contract: where the signature agrees, the chain from its head.
-- Assumes nothing.
use mathlib.Core.Path.{refl, sym, ◌∙◌, ap}
use mathlib.Core.Logic.{inl, inr}
use Rattle.audit.specs.Audit.{leaf_of}
use Rattle.audit.proofs.WalkLaws.{leaf_unfit, leaf_chain}
use Rattle.audit.proofs.PathWords.{on_path}
use Rattle.audit.proofs.walk.leaf.Goals as goal
use Rattle.audit.proofs.walk.leaf.Goals.{then-lent-eq0-via-then-lent-eq0, then-lent-eq0-via-else-lent-eq0+then-filed_of-ne1}

pub returns-then-lent-eq0 : goal.returns-then-lent-eq0
returns-then-lent-eq0 c =
    let r = c.args.rows.now in
    let on = on_path r.links.now r.words r.fit.each c.args.path.now _ c.agrees.ensures c.if-not-agrees.false in
    elim c.then-lent-eq0.branch [
      | then-lent-eq0-via-then-lent-eq0 w ↦ leaf_unfit _ _ _ _ _ c.if-reference-eq0.false c.signature_of-signature.ensures.number on refl (inl w.if-lent-eq0.true)
      | then-lent-eq0-via-else-lent-eq0+then-filed_of-ne1 w ↦ leaf_unfit _ _ _ _ _ c.if-reference-eq0.false c.signature_of-signature.ensures.number on w.filed_of.ensures (inr (w.if-lent-eq0.false, w.if-filed_of-ne1.true))
    ]

pub returns-in_err-blocks : goal.returns-in_err-blocks
returns-in_err-blocks c =
    let r = c.args.rows.now in
    let on = on_path r.links.now r.words r.fit.each c.args.path.now _ c.agrees.ensures c.if-not-agrees.false in
    c.from_residual.ensures ∙ ap (leaf_of c.args.lent) (sym c.in_err-blocks.was)
    ∙ leaf_chain _ _ _ _ c.args.lent c.if-reference-eq0.false c.signature_of-signature.ensures.number on c.requires c.if-lent-eq0.false c.filed_of.ensures c.if-filed_of-ne1.false c.next_of.ensures c.follow.ensures

pub returns : goal.returns
returns c =
    let r = c.args.rows.now in
    let on = on_path r.links.now r.words r.fit.each c.args.path.now _ c.agrees.ensures c.if-not-agrees.false in
    ap (leaf_of c.args.lent) (sym c.in_ok-blocks.was)
    ∙ leaf_chain _ _ _ _ c.args.lent c.if-reference-eq0.false c.signature_of-signature.ensures.number on c.requires c.if-lent-eq0.false c.filed_of.ensures c.if-filed_of-ne1.false c.next_of.ensures c.follow.ensures
