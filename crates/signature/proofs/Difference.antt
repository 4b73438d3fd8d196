-- The first difference of two signatures. The search from position 1 on keeps "all before agree", and ends inside the width since two
-- signatures that agree at every position are equal; no other position is the first.
-- Assumes nothing.
use mathlib.Core.Path.{◌≡◌, refl, sym, ap, ◌∙◌}
use mathlib.Core.Bool.{Bool, true, false}
use mathlib.Core.Logic.{◌⊎◌, inl, inr, ◌≢◌}
use Prim.Native.Nat.{ℕ, zero, suc, ◌+◌, ◌^◌, ◌≤◌, ◌<◌}
use native.Mathlib.Nat.{le_antisymm, le_of_suc-le-suc, lt_of_not-le, le-suc_iff}
use native.Mathlib.Omega.{arith}
use lib.Dec.{eqb}
use borrow.Author.Tests.{eqb-true, eqb-false}
use Rattle.model.specs.Signature.{bit_at, difference_from, first_difference}
use Rattle.signature.proofs.Bits.{bits_equal}

-- r is the first position from the left at which a and b differ
pub record IsFirst (F a b r : ℕ) : Type 0 where
  pub low : 1 ≤ r
  pub high : r ≤ F
  pub differs : bit_at F a r ≢ bit_at F b r
  pub before : (i : ℕ) → 1 ≤ i → i < r → bit_at F a i ≡ bit_at F b i

module _ (F a b : ℕ) (ha : a < 2 ^ F) (hb : b < 2 ^ F) (ne : a ≢ b) where
  first_from : (n j : ℕ) → 1 ≤ j → j + n ≡ suc F → ((i : ℕ) → 1 ≤ i → i < j → bit_at F a i ≡ bit_at F b i) → IsFirst F a b (difference_from F a b n j)
  unfolding difference_from
  first_from zero j p e same = absurd (ne (bits_equal F a b ha hb (λ i q h. same i q (omega arith))))
  first_from (suc n) j p e same =
      go (λ agree. first_from n (suc j) (omega arith) (omega arith) (more agree)) (eqb (bit_at F a j) (bit_at F b j)) refl
    where
      more : bit_at F a j ≡ bit_at F b j → (i : ℕ) → 1 ≤ i → i < suc j → bit_at F a i ≡ bit_at F b i
      more agree i q h = pick (le-suc_iff.0 h)
        where
          pick : (suc i ≤ j) ⊎ (suc i ≡ suc j) → bit_at F a i ≡ bit_at F b i
          pick (inl l) = same i q l
          pick (inr k) =
              let k' : i ≡ j = omega arith in
              ap (bit_at F a) k' ∙ agree ∙ ap (bit_at F b) (sym k')

      go : (bit_at F a j ≡ bit_at F b j → IsFirst F a b (difference_from F a b n (suc j)))
          → (t : Bool) → eqb (bit_at F a j) (bit_at F b j) ≡ t → IsFirst F a b (elim t [ true ↦ difference_from F a b n (suc j) | false ↦ j ])
      go rest true t = rest (eqb-true (bit_at F a j) (bit_at F b j) t)
      go rest false t = record { low = p; high = omega arith; differs = eqb-false (bit_at F a j) (bit_at F b j) t; before = same }

  pub first_is : IsFirst F a b (first_difference F a b)
  first_is = first_from F 1 (omega arith) (omega arith) (λ i p h. absurd (omega arith))

-- there is only one
first_le : {F a b r s : ℕ} → IsFirst F a b r → IsFirst F a b s → r ≤ s
first_le {r = r} {s = s} x y = le_of_suc-le-suc (lt_of_not-le (λ (g : suc s ≤ r). y.differs (x.before s y.low g)))

pub first_unique : {F a b r s : ℕ} → IsFirst F a b r → IsFirst F a b s → r ≡ s
first_unique x y = le_antisymm (first_le x y) (first_le y x)
