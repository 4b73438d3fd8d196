-- `withdraw::plan::find_before` meets its contract. The invariant: on a chain that has the block, the search of what is left ends
-- where the definition's does; so it neither runs out nor meets a word that is no block.
-- Assumes nothing.
use Prim.Native.Nat.{◌+◌, ◌-◌}
use native.Mathlib.Omega.{arith}
use mathlib.Core.Path.{◌≡◌, sym, ◌∙◌, ap}
use Rattle.std.specs.Prelude.{Some}
use Rattle.model.proofs.Asking.{in_range, not_in_range}
use Rattle.tables.proofs.Held.{next}
use Rattle.withdraw.proofs.Chains.{seek, some_left, next_is_block, found_before, pass}
use Rattle.withdraw.proofs.plan.find_before.Goals as goal

pub loop-init : goal.loop-init
loop-init c = (c.requires.0, c.requires.1, λ cs q m. seek (c.blocks-blocks.result - 0) (omega (arith, c.blocks-blocks.ensures)) cs q m)

pub returns-then-next-block-clause-chain : goal.returns-then-next-block-clause-chain
returns-then-next-block-clause-chain c cs q m =
    ap Some (found_before (c.next_of-next.ensures ∙ next c.args.tables.now _ c.loop.invariant.1) _ (c.loop.invariant.2 cs q m) c.if-next-block.true)

pub returns-then-not-is_block-clause-chain : goal.returns-then-not-is_block-clause-chain
returns-then-not-is_block-clause-chain c cs q m =
    let k = next_is_block (c.next_of-next.ensures ∙ next c.args.tables.now _ c.loop.invariant.1) (c.loop.invariant.2 cs q m) in
    not_in_range _ _ (rw c.blocks-blocks.ensures at (sym c.is_block.ensures ∙ c.if-not-is_block.true)) k.0 k.1

pub loop-preserved : goal.loop-preserved
loop-preserved c =
    let r = in_range c.next_of-next.result c.blocks-blocks.result (sym c.is_block.ensures ∙ c.if-not-is_block.false) in
    let n : c.blocks-blocks.result - (c.loop.counter + 1) ≡ c.blocks-blocks.result - c.loop.counter - 1 = omega arith in
    (r.0, omega (arith, r.1, c.blocks-blocks.ensures), λ cs q m. rw n (pass (c.next_of-next.ensures ∙ next c.args.tables.now _ c.loop.invariant.1) _ (c.loop.invariant.2 cs q m) c.if-next-block.false))

pub returns-clause-chain : goal.returns-clause-chain
returns-clause-chain c cs q m = let k = some_left (c.loop.invariant.2 cs q m) in absurd (omega (arith, c.loop-test.false))
