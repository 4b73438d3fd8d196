-- Covering, three ways that are one: at every position, by the AND, and by the test that computes. Each step of the halving looks at
-- the last position, and what is left is the same question one width down.
-- Assumes nothing.
use mathlib.Core.Path.{◌≡◌, refl, sym, ap, ap₂, ◌∙◌}
use mathlib.Core.Bool.{Bool, true, false, ◌&&◌}
use mathlib.Core.Logic.{◌↔◌, ◌⊎◌, inl, inr}
use Prim.Native.Nat.{ℕ, zero, suc, ◌+◌, ◌*◌, ◌/◌, ◌%◌, ◌^◌, ◌≤◌, ◌<◌, min}
use native.Mathlib.Nat.{le-suc_iff, min-eq_right, div-add-mod'}
use native.Mathlib.Omega.{arith}
use lib.Dec.{leb, eqb}
use lib.Arith.{lt-one, digits_mod}
use lib.Bits.{and_zero_r, bit_and, bit_or, and_step, and_shr}
use borrow.Author.Tests.{leb-true, le-leb, eq-eqb, ne_eqb}
use Rattle.model.specs.Signature.{bit_at, Covers, coversb}
use Rattle.model.proofs.Bits.{bit_below, bit_cases}
use Rattle.model.proofs.Asking.{true_false, both}
use Rattle.signature.proofs.Bits.{bit_last, bit_half, bit_zero, bit_of_or, half_below}

yes_yes : (s t : Bool) → s ≡ true → t ≡ true → (s && t) ≡ true
yes_yes s t p q = ap₂ ◌&&◌ p q

-- the test is the AND that the code makes
pub covers_and : (F s q : ℕ) → q < 2 ^ F → coversb F s q ≡ true → bit_and s q ≡ q
unfolding coversb
covers_and zero s q h e = ap (bit_and s) (lt-one h) ∙ and_zero_r s ∙ sym (lt-one h)
covers_and (suc F) s q h e =
    let l : q % 2 ≤ s % 2 = leb-true (q % 2) (s % 2) (both {t = leb (q % 2) (s % 2)} e).0 in
    and_step s q
    ∙ ap₂ (λ (x y : ℕ). x * 2 + y)
    (covers_and F (s / 2) (q / 2) (half_below F q h) (both {t = leb (q % 2) (s % 2)} e).1)
    (min-eq_right l)
    ∙ div-add-mod' q 2

pub and_covers : (F s q : ℕ) → bit_and s q ≡ q → coversb F s q ≡ true
unfolding coversb
and_covers zero s q e = refl
and_covers (suc F) s q e =
    let low : q % 2 ≡ min (s % 2) (q % 2) = ap (λ (n : ℕ). n % 2) (sym e ∙ and_step s q) ∙ digits_mod (bit_and (s / 2) (q / 2)) (omega arith) in
    yes_yes (leb (q % 2) (s % 2)) (coversb F (s / 2) (q / 2)) (le-leb (q % 2) (s % 2) (omega arith))
    (and_covers F (s / 2) (q / 2) (sym (and_shr s q 1) ∙ ap (λ (n : ℕ). n / 2) e))

pub and_test : (F s q : ℕ) → q < 2 ^ F → eqb (bit_and s q) q ≡ coversb F s q
and_test F s q h = go (coversb F s q) refl
  where
    go : (t : Bool) → coversb F s q ≡ t → eqb (bit_and s q) q ≡ t
    go true e = eq-eqb (bit_and s q) q (covers_and F s q h e)
    go false e = ne_eqb (bit_and s q) q (λ p. true_false (and_covers F s q p) e)

-- the test is the statement about every position
pub coversb_sound : (F s q : ℕ) → coversb F s q ≡ true → Covers F s q
unfolding coversb
coversb_sound zero s q e j p h b = absurd (omega arith)
coversb_sound (suc F) s q e j p h b =
    let l : q % 2 ≤ s % 2 = leb-true (q % 2) (s % 2) (both {t = leb (q % 2) (s % 2)} e).0 in
    go l (coversb_sound F (s / 2) (q / 2) (both {t = leb (q % 2) (s % 2)} e).1 j p) (le-suc_iff.0 h)
  where
    go : q % 2 ≤ s % 2 → (j ≤ F → bit_at F (q / 2) j ≡ 1 → bit_at F (s / 2) j ≡ 1) → (j ≤ F) ⊎ (j ≡ suc F) → bit_at (suc F) s j ≡ 1
    go l rest (inl k) = bit_half F s j k ∙ rest k (sym (bit_half F q j k) ∙ b)
    go l rest (inr k) =
        let at : (x : ℕ) → bit_at (suc F) x j ≡ x % 2 = λ x. ap (bit_at (suc F) x) k ∙ bit_last F x in
        let one : q % 2 ≡ 1 = sym (at q) ∙ b in
        at s ∙ omega arith

pub coversb_complete : (F s q : ℕ) → Covers F s q → coversb F s q ≡ true
unfolding coversb
coversb_complete zero s q c = refl
coversb_complete (suc F) s q c =
    yes_yes (leb (q % 2) (s % 2)) (coversb F (s / 2) (q / 2)) (le-leb (q % 2) (s % 2) (low (bit_cases (suc F) q (suc F))))
    (coversb_complete F (s / 2) (q / 2) (λ j p h b. sym (bit_half F s j h) ∙ c j p (omega arith) (bit_half F q j h ∙ b)))
  where
    low : (bit_at (suc F) q (suc F) ≡ 0) ⊎ (bit_at (suc F) q (suc F) ≡ 1) → q % 2 ≤ s % 2
    low (inl e) = omega (arith, bit_last F q)
    low (inr e) =
        let one : s % 2 ≡ 1 = sym (bit_last F s) ∙ c (suc F) (omega arith) (omega arith) e in
        omega (arith, bit_last F q)

-- the three ways as one: at every position, by the AND, by the test
pub covers_iff_test : (F s q : ℕ) → Covers F s q ↔ (coversb F s q ≡ true)
covers_iff_test F s q = (coversb_complete F s q, coversb_sound F s q)

pub covers_iff_and : (F s q : ℕ) → q < 2 ^ F → Covers F s q ↔ (bit_and s q ≡ q)
covers_iff_and F s q h = (λ c. covers_and F s q h (coversb_complete F s q c), λ e. coversb_sound F s q (and_covers F s q e))

-- what covers what

pub covers_zero : (F s : ℕ) → Covers F s 0
covers_zero F s j p h e = absurd (omega (arith, bit_zero F j))

pub covers_trans : (F s t q : ℕ) → Covers F s t → Covers F t q → Covers F s q
covers_trans F s t q x y j p h e = x j p h (y j p h e)

pub covers_left : (F a b : ℕ) → Covers F (bit_or a b) a
covers_left F a b j p h e = omega (arith, bit_of_or F a b j, bit_below F b j)

pub covers_right : (F a b : ℕ) → Covers F (bit_or a b) b
covers_right F a b j p h e = omega (arith, bit_of_or F a b j, bit_below F a j)

-- an OR is covered where both its parts are
pub covers_or : (F s a b : ℕ) → Covers F s a → Covers F s b → Covers F s (bit_or a b)
covers_or F s a b x y j p h e = go (bit_cases F a j)
  where
    go : (bit_at F a j ≡ 0) ⊎ (bit_at F a j ≡ 1) → bit_at F s j ≡ 1
    go (inl z) = y j p h (omega (arith, bit_of_or F a b j))
    go (inr o) = x j p h o
