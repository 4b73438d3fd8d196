-- `tables::walk::walk` meets its contract.
-- Assumes nothing.
use Prim.Native.Nat.{◌-◌, ◌≤◌}
use native.Mathlib.Omega.{arith}
use mathlib.Core.Path.{refl}
use mathlib.Core.Logic.{◌⊎◌, inl, inr}
use Rattle.tables.proofs.Reached.{reached_root, reached_unfit, reached_no_side, reached_side, passed_asks, ends_root, ends_below}
use Rattle.tables.proofs.walk.walk.Goals as goal
use Rattle.tables.proofs.walk.walk.Goals.{else-loop-test, then-loop-test+then-at-blocks}

pub loop-init : goal.loop-init
loop-init g c = reached_root _ _ _ _ _ c.requires.3 _ _ (omega arith) refl

pub returns-then-blocks-next-clause-ends : goal.returns-then-blocks-next-clause-ends
returns-then-blocks-next-clause-ends g c =
    reached_unfit _ _ _ _ _ c.requires.3 _ _ _ _ c.loop.invariant (omega (arith, c.loop-test.true)) (omega (arith, c.if-at-blocks.false)) (λ f. let to = f.0 in omega (arith, c.if-blocks-next.true))

pub returns-in_err-side-clause-ends : goal.returns-in_err-side-clause-ends
returns-in_err-side-clause-ends g c =
    rw c.from_residual.ensures
    (reached_no_side _ _ _ _ _ c.requires.3 _ _ _ _ c.loop.invariant (omega (arith, c.loop-test.true)) (omega (arith, c.if-at-blocks.false)) _ refl (omega (arith, c.if-blocks-next.false)) _ c.word_of-word.ensures c.in_err-side.ensures)

pub loop-preserved : goal.loop-preserved
loop-preserved g c =
    reached_side _ _ _ _ _ c.requires.3 _ _ _ _ c.loop.invariant (omega (arith, c.loop-test.true)) (omega (arith, c.if-at-blocks.false)) _ refl (omega (arith, c.if-blocks-next.false)) _ c.word_of-word.ensures
    _ _ _ (omega arith) c.in_ok-side.ensures c.side_in-reference.ensures

pub returns-then-node-eq0-clause-ends : goal.returns-then-node-eq0-clause-ends
returns-then-node-eq0-clause-ends g c =
    let e : (c.loop.reference ≤ c.args.blocks) ⊎ (c.args.width - c.loop.counter ≤ 0) = elim c.loop-test.branch [
      | else-loop-test w ↦ inr (omega (arith, w.loop-test.false))
      | then-loop-test+then-at-blocks w ↦ inl (omega (arith, w.if-at-blocks.true))
    ] in
    ends_root _ _ _ _ _ c.requires.3 _ _ _ _ c.loop.invariant e c.if-node-eq0.true

pub place_below-requires : goal.place_below-requires
place_below-requires g c = passed_asks _ _ _ _ (g.S.Positions.number c.args.signature) c.requires.3 _ _ c.loop.invariant.fit c.requires.1 c.requires.2

pub place_below-requires-2 : goal.place_below-requires-2
place_below-requires-2 g c = passed_asks _ _ _ _ (g.S.Positions.number c.args.signature) c.requires.3 _ _ c.loop.invariant.fit_above c.requires.1 c.requires.2

pub returns-clause-ends : goal.returns-clause-ends
returns-clause-ends g c =
    let e : (c.loop.reference ≤ c.args.blocks) ⊎ (c.args.width - c.loop.counter ≤ 0) = elim c.loop-test.branch [
      | else-loop-test w ↦ inr (omega (arith, w.loop-test.false))
      | then-loop-test+then-at-blocks w ↦ inl (omega (arith, w.if-at-blocks.true))
    ] in
    ends_below _ _ _ _ _ c.requires.3 _ _ _ _ c.loop.invariant e c.if-node-eq0.false _ (c.place_below.ensures.address _ _ c.requires.3) _ (c.place_below-2.ensures.address _ _ c.requires.3)
