-- The bits that a word has set, from which word set each of them last: by one step per bit, since the first entry is the lowest bit and
-- the others are those of the half.
-- Assumes nothing.
use mathlib.Core.Path.{◌≡◌, refl, sym, ap, ap₂, ◌∙◌}
use mathlib.Core.Bool.{Bool, true, false, cond}
use mathlib.Core.List.{List, [], ◌∷◌}
use mathlib.Core.Logic.{◌≢◌}
use Prim.Native.Nat.{ℕ, zero, suc, ◌+◌, ◌-◌, ◌*◌, ◌/◌, ◌%◌, ◌^◌, ◌≤◌, ◌<◌}
use native.Mathlib.Nat.{pow-suc, pow-succ', div-div-eq-div-mul}
use native.Mathlib.Omega.{arith}
use lib.Dec.{eqb}
use lib.ListN.{length, get_or, set, replicate}
use lib.Bits.{bit_or, or_step, or_zero_r}
use borrow.Author.Tests.{eq-eqb, ne_eqb}
use Rattle.model.specs.Signature.{bit_at}
use Rattle.words.specs.Stamps.{stamped}

bit_small : (y : Bool) → cond y 1 0 < 2
bit_small true = omega arith
bit_small false = omega arith

-- a word that has no entry has set nothing
pub stamped_none : (n : ℕ) (xs : List ℕ) → ((i : ℕ) → get_or xs i 0 < n) → stamped n xs ≡ 0
unfolding stamped
stamped_none n [] h = refl
stamped_none n (x ∷ xs) h =
    let first : x < n = h 0 in
    let other : x ≢ n = λ e. omega arith in
    rw (ne_eqb x n other, stamped) (omega (arith, stamped_none n xs (λ i. h (suc i))))

module _ (x n : ℕ) (xs : List ℕ) where
  last : (cond (eqb x n) 1 0 + 2 * stamped n xs) % 2 ≡ cond (eqb x n) 1 0
  last = omega (arith, bit_small (eqb x n))

  half : (cond (eqb x n) 1 0 + 2 * stamped n xs) / 2 ≡ stamped n xs
  half = omega (arith, bit_small (eqb x n))

-- a bit is set where its entry is the word
pub stamped_bit : (n : ℕ) (xs : List ℕ) (i : ℕ) → i < length xs → stamped n xs / 2 ^ i % 2 ≡ cond (eqb (get_or xs i 0) n) 1 0
unfolding stamped
stamped_bit n [] i h = absurd (omega arith)
stamped_bit n (x ∷ xs) zero h = omega (arith, last x n xs)
stamped_bit n (x ∷ xs) (suc i) h =
    let whole : ℕ = cond (eqb x n) 1 0 + 2 * stamped n xs in
    ap (λ (m : ℕ). whole / m % 2) (pow-succ' 2 i)
    ∙ ap (λ (m : ℕ). m % 2) (sym (div-div-eq-div-mul whole 2 (2 ^ i)))
    ∙ ap (λ (m : ℕ). m / 2 ^ i % 2) (half x n xs)
    ∙ stamped_bit n xs i (omega arith)

-- an entry that becomes the word's sets its bit
pub stamped_set : (n : ℕ) (xs : List ℕ) (i : ℕ) → i < length xs → stamped n (set xs i n) ≡ bit_or (stamped n xs) (2 ^ i)
unfolding stamped
stamped_set n [] i h = absurd (omega arith)
stamped_set n (x ∷ xs) zero h =
    let whole : ℕ = cond (eqb x n) 1 0 + 2 * stamped n xs in
    let here : cond {A = ℕ} (eqb n n) 1 0 ≡ 1 = ap (λ (y : Bool). cond {A = ℕ} y 1 0) (eq-eqb n n refl) in
    let rest : bit_or (whole / 2) 0 ≡ stamped n xs = or_zero_r (whole / 2) ∙ half x n xs in
    omega (arith, or_step whole 1, last x n xs)
stamped_set n (x ∷ xs) (suc i) h =
    let whole : ℕ = cond (eqb x n) 1 0 + 2 * stamped n xs in
    let p : 2 ^ suc i / 2 ≡ 2 ^ i = omega (arith, pow-suc 2 i) in
    let q : 2 ^ suc i % 2 ≡ 0 = omega (arith, pow-suc 2 i) in
    let rest : bit_or (whole / 2) (2 ^ suc i / 2) ≡ stamped n (set xs i n) = ap₂ bit_or (half x n xs) p ∙ sym (stamped_set n xs i (omega arith)) in
    omega (arith, or_step whole (2 ^ suc i), last x n xs, bit_small (eqb x n))

-- a bit as a test
pub stamped_at : (F n j : ℕ) (xs : List ℕ) → F - j < length xs → eqb (get_or xs (F - j) 0) n ≡ eqb (bit_at F (stamped n xs) j) 1
stamped_at F n j xs h = sym (ap (λ (m : ℕ). eqb m 1) (stamped_bit n xs (F - j) h) ∙ tested (eqb (get_or xs (F - j) 0) n))
  where
    tested : (y : Bool) → eqb (cond y 1 0) 1 ≡ y
    tested true = refl
    tested false = refl

-- where no word has set anything, no entry is above a number
pub zeros_numbered : (m n j : ℕ) → get_or (replicate m 0) j 0 ≤ n
zeros_numbered zero n j = omega arith
zeros_numbered (suc m) n zero = omega arith
zeros_numbered (suc m) n (suc j) = zeros_numbered m n j
