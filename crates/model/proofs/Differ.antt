-- Two different signatures below 2 ^ F differ at their first difference, a position 1 to F: where all positions up to j agree, so do
-- the numbers made of them, and at F these are the signatures themselves.
-- Assumes nothing.
use Prim.Native.Nat.{ℕ, zero, suc, ◌+◌, ◌-◌, ◌/◌, ◌%◌, ◌^◌, ◌≤◌, ◌<◌}
use native.Mathlib.Nat.{div-one, div-eq_of_lt}
use native.Mathlib.Numerals.{add-one}
use native.Mathlib.Omega.{arith}
use mathlib.Core.Path.{◌≡◌, refl, sym, ◌∙◌}
use mathlib.Core.Logic.{◌≢◌}
use mathlib.Core.Bool.{Bool, true, false}
use lib.Dec.{eqb}
use lib.Pow.{shr-shr}
use borrow.Author.Tests.{eqb-true, eqb-false}
use Rattle.model.specs.Signature.{bit_at, difference_from, first_difference}

pub record DiffersAt (F a b d : ℕ) : Type 0 where
  pub from : 1 ≤ d
  pub to : d ≤ F
  pub apart : bit_at F a d ≢ bit_at F b d

module _ (F a b : ℕ) (ne : a ≢ b) where
  halves : (n j : ℕ) → j + n ≡ F → bit_at F a j ≡ bit_at F b j → a / 2 ^ suc n ≡ b / 2 ^ suc n → a / 2 ^ n ≡ b / 2 ^ n
  halves n j h e q =
      let g : F - j ≡ n = omega arith in
      let low : a / 2 ^ n % 2 ≡ b / 2 ^ n % 2 = rw g at e in
      let ha : a / 2 ^ n / 2 ≡ a / 2 ^ suc n = rw (← add-one n) (shr-shr a n 1) in
      let hb : b / 2 ^ n / 2 ≡ b / 2 ^ suc n = rw (← add-one n) (shr-shr b n 1) in
      omega arith

  differs_from : (n j : ℕ) → 1 ≤ j → j + n ≡ suc F → a / 2 ^ n ≡ b / 2 ^ n → DiffersAt F a b (difference_from F a b n j)
  unfolding difference_from
  differs_from zero j h e q = absurd (ne (sym (div-one a) ∙ q ∙ div-one b))
  differs_from (suc n) j h e q = go (eqb (bit_at F a j) (bit_at F b j)) refl (differs_from n (suc j) (omega arith) (omega arith))
    where
      go : (t : Bool) → eqb (bit_at F a j) (bit_at F b j) ≡ t → (a / 2 ^ n ≡ b / 2 ^ n → DiffersAt F a b (difference_from F a b n (suc j))) → DiffersAt F a b (difference_from F a b (suc n) j)
      go true i ih = rw (i, difference_from) (ih (halves n j (omega arith) (eqb-true _ _ i) q))
      go false i ih = rw (i, difference_from) (record { from = h; to = omega arith; apart = eqb-false _ _ i })

pub first_differs : (F a b : ℕ) → a < 2 ^ F → b < 2 ^ F → a ≢ b → DiffersAt F a b (first_difference F a b)
first_differs F a b ha hb ne = differs_from F a b ne F 1 (omega arith) (omega arith) (div-eq_of_lt ha ∙ sym (div-eq_of_lt hb))
