-- What tells a leaf: a reference that is one of the blocks, and nothing else.
-- Assumes nothing.
use Prim.Native.Nat.{ℕ, ◌-◌, ◌≤◌, ◌<◌}
use native.Mathlib.Omega.{arith}
use mathlib.Core.Path.{◌≡◌, refl}
use mathlib.Core.Logic.{◌⊎◌, inl, inr}
use mathlib.Core.Bool.{Bool, true, false}
use lib.Dec.{eqb, ltb}
use borrow.Author.Tests.{eqb-true, eqb-false, ne_eqb, lt-ltb, le-ltb, ltb-true, ltb-false}
use Rattle.model.specs.Basics.{pick}
use Rattle.search.specs.Search.{index_of, is_leaf}

module _ (B r : ℕ) where
  -- a block is a leaf, and what stands above the blocks is none
  pub block_leaf : 1 ≤ r → r ≤ B → is_leaf B r ≡ true
  block_leaf low high =
      let ne : r ≡ 0 → ⊥ = omega arith in
      let lt : r - 1 < B = omega arith in
      rw (ne_eqb r 0 ne) (lt-ltb (r - 1) B lt)

  pub above_leaf : B < r → is_leaf B r ≡ false
  above_leaf lt =
      let ne : r ≡ 0 → ⊥ = omega arith in
      let ge : B ≤ r - 1 = omega arith in
      rw (ne_eqb r 0 ne) (le-ltb (r - 1) B ge)

  -- a leaf is a block, and what is none is nothing or stands above them
  pub leaf_block : B ≤ 65535 → is_leaf B r ≡ true → (1 ≤ r) × (r ≤ B)
  leaf_block few e = go (eqb r 0) refl e
    where
      go : (t : Bool) → eqb r 0 ≡ t → ltb (pick t 18446744073709551615 (r - 1)) B ≡ true → (1 ≤ r) × (r ≤ B)
      go true z h = let k = ltb-true 18446744073709551615 B h in absurd (omega arith)
      go false z h =
          let k = ltb-true (r - 1) B h in
          let n = eqb-false r 0 z in
          (omega arith, omega arith)

  pub index_above : is_leaf B r ≡ false → B ≤ index_of r
  index_above e = ltb-false (index_of r) B e

  pub no_leaf : is_leaf B r ≡ false → (r ≡ 0) ⊎ (B < r)
  no_leaf e = go (eqb r 0) refl e
    where
      go : (t : Bool) → eqb r 0 ≡ t → ltb (pick t 18446744073709551615 (r - 1)) B ≡ false → (r ≡ 0) ⊎ (B < r)
      go true z h = inl (eqb-true r 0 z)
      go false z h =
          let k = ltb-false (r - 1) B h in
          let n = eqb-false r 0 z in
          inr (omega arith)
