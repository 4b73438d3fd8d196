-- `withdraw::plan::find_before` meets its contract. The invariant: on a chain that has the block, the search of what is left ends
-- where the definition's does; so it neither runs out nor meets a word that is no block.
-- Assumes nothing.
use Prim.Native.Nat.{ℕ, ◌-◌, ◌≤◌}
use mathlib.Core.List.{List, Memᴰ}
use Rattle.model.specs.Sound.{Chain}
use Rattle.model.specs.Withdraw.{block_before}
use Rattle.tables.specs.Held.{blocks_held, held}
use Rattle.withdraw.proofs.Chains.{Sought}
use Rattle.withdraw.proofs.plan.find_before.Given as goal

abbrev pub invariant-loop : goal.invariant-loop
invariant-loop l =
    (1 ≤ l.before)
    × (l.before ≤ blocks_held l.tables)
    × ((cs : List ℕ) → Chain (blocks_held l.tables) (held l.tables) l.head cs → Memᴰ l.block cs
    → Sought (blocks_held l.tables) (held l.tables) l.block (block_before (held l.tables) l.block (blocks_held l.tables) l.head) (l.blocks - l.counter) l.before)
