-- Of the words passed, those before `from` and from `to` on are 0.
-- Assumes nothing.
use mathlib.Core.Path.{◌≡◌}
use mathlib.Core.Logic.{◌⊎◌}
use mathlib.Core.List.{List}
use Prim.Native.Nat.{ℕ, ◌≤◌, ◌<◌}
use lib.ListN.{get_or}
use Rattle.signature.proofs.wanted.Wanted.of.Given as goal

pub record Trimmed (words : List ℕ) (passed from to : ℕ) : Type 0 where
  pub from_first : from ≤ to
  pub to_passed : to ≤ passed
  pub zero : (i : ℕ) → i < passed → (i < from) ⊎ (to ≤ i) → get_or words i 0 ≡ 0

abbrev pub invariant-loop-i : goal.invariant-loop-i
invariant-loop-i l = Trimmed l.words l.i l.from l.to
