-- `file::plan::plan_split` meets its contract: a check that fails has a no to a premise of `SplitPlan`.
-- Assumes nothing.
use Prim.Native.Nat.{◌-◌}
use native.Mathlib.Omega.{arith}
use mathlib.Core.Path.{sym, ◌∙◌}
use Rattle.model.proofs.Asking.{in_range}
use Rattle.file.proofs.Planned.{words_read, no_node, too_large, differs, a_split}
use Rattle.file.proofs.plan.plan_split.Goals as goal
use Rattle.file.proofs.plan.plan_split.Goals.{then-not-is_block-via-then-not-is_block, then-not-is_block-via-else-not-is_block+then-not-fits}

pub fits-requires : goal.fits-requires
fits-requires c =
    (c.width-width.ensures.bound.0, c.requires.long.1 ∙ words_read c.args.tables.now _ c.width-width.ensures.value)

pub returns-then-not-is_block-clause-splits : goal.returns-then-not-is_block-clause-splits
returns-then-not-is_block-clause-splits c = elim c.then-not-is_block.branch [
  | then-not-is_block-via-then-not-is_block w ↦ no_node c.args.tables.now _ _ _ _ _ _ c.first_free-node.ensures c.width-width.ensures.value _ c.blocks-2.ensures (sym c.is_block.ensures ∙ w.if-not-is_block.true) _
  | then-not-is_block-via-else-not-is_block+then-not-fits w ↦ too_large c.args.tables.now _ _ _ _ _ _ c.first_free-node.ensures c.width-width.ensures.value (sym w.fits.ensures ∙ w.if-not-fits.true) _
]

pub first_difference-position-requires-clause-lengths : goal.first_difference-position-requires-clause-lengths
first_difference-position-requires-clause-lengths c =
    let w = c.width-width.ensures.bound in
    let l = c.requires.long in
    let W = words_read c.args.tables.now _ c.width-width.ensures.value in
    (w.0, w.1, l.0 ∙ W, l.1 ∙ W)

pub first_difference-position-requires-clause-differ : goal.first_difference-position-requires-clause-differ
first_difference-position-requires-clause-differ c = differs c.args.tables.now _ c.args.place c.args.leaf _ _ _ c.first_free-node.ensures c.width-width.ensures.value c.requires.differ (sym c.fits.ensures ∙ c.if-not-fits.false)

pub is_set-requires : goal.is_set-requires
is_set-requires c =
    omega (arith, c.requires.long.0, words_read c.args.tables.now _ c.width-width.ensures.value, c.first_difference-position.ensures.1)

pub returns-clause-splits : goal.returns-clause-splits
returns-clause-splits c =
    let p = c.first_difference-position.ensures in
    a_split c.args.tables.now _ c.args.place c.args.leaf _ _ _ c.first_free-node.ensures c.width-width.ensures.value c.requires.differ (sym c.fits.ensures ∙ c.if-not-fits.false) _ p.0 _ _ (rw p.1 at c.is_set.ensures) c.into-side.ensures

pub returns-clause-within : goal.returns-clause-within
returns-clause-within c =
    let r = in_range _ (c.blocks-2.result - 1) (sym c.is_block.ensures ∙ c.if-not-is_block.false) in
    let q = c.requires.inside in
    let p = c.first_difference-position.result in
    (q.0, q.1, r.0, omega (arith, r.1, q.0, c.blocks-2.ensures), q.2, omega (arith, p.inside.1, p.narrow))
