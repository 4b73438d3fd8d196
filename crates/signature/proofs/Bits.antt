-- The bits of a signature, for every width F: the last position is the lowest bit and the others are those of the half, so every
-- law goes by halving or by one shift.
-- Assumes nothing.
use mathlib.Core.Path.{◌≡◌, refl, sym, ap, ap₂, ◌∙◌}
use mathlib.Core.Bool.{true, false}
use mathlib.Core.Logic.{◌≢◌}
use Prim.Native.Nat.{ℕ, zero, suc, ◌+◌, ◌-◌, ◌*◌, ◌/◌, ◌%◌, ◌^◌, ◌≤◌, ◌<◌, min, max}
use native.Mathlib.Nat.{mod-lt, zero-lt-suc, zero-div, div-one, div_self, div-eq_of_lt, div-div-eq-div-mul, div-add-mod', mul-div_cancel, sub_self, pow-suc, pow-succ'}
use native.Mathlib.Decide.{dec_lt}
use native.Mathlib.Omega.{arith}
use lib.Dec.{eqb}
use lib.Arith.{lt-one, digits_mod}
use lib.Pow.{pow_pos, pow-add, pow-lt, pow_mono}
use lib.Bits.{bit_and, bit_or, bit_xor, differ, and_step, or_step, xor_step, and_shr, or_shr, xor_shr, or_lt}
use borrow.Author.Tests.{eqb-true, eqb-false}
use Rattle.model.specs.Signature.{bit_at}
use Rattle.model.proofs.Bits.{bit_below}

two_pos : 0 < 2
two_pos = zero-lt-suc 1

-- what the test of a bit says
pub bit_set : (F s j : ℕ) → eqb (bit_at F s j) 1 ≡ true → bit_at F s j ≡ 1
bit_set F s j e = eqb-true (bit_at F s j) 1 e

pub bit_clear : (F s j : ℕ) → eqb (bit_at F s j) 1 ≡ false → bit_at F s j ≡ 0
bit_clear F s j e = omega (arith, bit_below F s j, eqb-false (bit_at F s j) 1 e)

-- the last position is the lowest bit
pub bit_last : (F s : ℕ) → bit_at (suc F) s (suc F) ≡ s % 2
bit_last F s = ap (λ (k : ℕ). s / 2 ^ k % 2) (sub_self (suc F)) ∙ ap (λ (n : ℕ). n % 2) (div-one s)

-- the positions before the last are those of the half
pub bit_half : (F s j : ℕ) → j ≤ F → bit_at (suc F) s j ≡ bit_at F (s / 2) j
bit_half F s j h =
    let e : suc F - j ≡ suc (F - j) = omega arith in
    ap (λ (k : ℕ). s / 2 ^ k % 2) e
    ∙ ap (λ (n : ℕ). s / n % 2) (pow-succ' 2 (F - j))
    ∙ ap (λ (n : ℕ). n % 2) (sym (div-div-eq-div-mul s 2 (2 ^ (F - j))))

pub bit_zero : (F j : ℕ) → bit_at F 0 j ≡ 0
bit_zero F j = ap (λ (n : ℕ). n % 2) (zero-div (2 ^ (F - j)))

-- the bits of an AND, an OR and an exclusive OR
pub bit_of_and : (F a b j : ℕ) → bit_at F (bit_and a b) j ≡ min (bit_at F a j) (bit_at F b j)
bit_of_and F a b j =
    let k : ℕ = F - j in
    ap (λ (n : ℕ). n % 2) (and_shr a b k ∙ and_step (a / 2 ^ k) (b / 2 ^ k))
    ∙ digits_mod (bit_and (a / 2 ^ k / 2) (b / 2 ^ k / 2)) (omega (arith, bit_below F a j))

pub bit_of_or : (F a b j : ℕ) → bit_at F (bit_or a b) j ≡ max (bit_at F a j) (bit_at F b j)
bit_of_or F a b j =
    let k : ℕ = F - j in
    ap (λ (n : ℕ). n % 2) (or_shr a b k ∙ or_step (a / 2 ^ k) (b / 2 ^ k))
    ∙ digits_mod (bit_or (a / 2 ^ k / 2) (b / 2 ^ k / 2)) (omega (arith, bit_below F a j, bit_below F b j))

differ_below : (x y : ℕ) → x < 2 → y < 2 → differ x y < 2
differ_below zero y hx hy = hy
differ_below (suc x) zero hx hy = hx
differ_below (suc x) (suc y) hx hy = differ_below x y (omega arith) (omega arith)

pub bit_of_xor : (F a b j : ℕ) → bit_at F (bit_xor a b) j ≡ differ (bit_at F a j) (bit_at F b j)
bit_of_xor F a b j =
    let k : ℕ = F - j in
    ap (λ (n : ℕ). n % 2) (xor_shr a b k ∙ xor_step (a / 2 ^ k) (b / 2 ^ k))
    ∙ digits_mod (bit_xor (a / 2 ^ k / 2) (b / 2 ^ k / 2)) (differ_below (a / 2 ^ k % 2) (b / 2 ^ k % 2) (mod-lt (a / 2 ^ k) two_pos) (mod-lt (b / 2 ^ k) two_pos))

-- the digits agree exactly where they do not differ
differ_zero : (x y : ℕ) → differ x y ≡ 0 → x ≡ y
differ_zero zero y e = sym e
differ_zero (suc x) zero e = e
differ_zero (suc x) (suc y) e = ap suc (differ_zero x y e)

differ_self : (x : ℕ) → differ x x ≡ 0
differ_self zero = refl
differ_self (suc x) = differ_self x

-- so two signatures agree at a position exactly where their exclusive OR has 0 there
pub xor_agree : (F a b j : ℕ) → bit_at F (bit_xor a b) j ≡ 0 → bit_at F a j ≡ bit_at F b j
xor_agree F a b j e = differ_zero (bit_at F a j) (bit_at F b j) (sym (bit_of_xor F a b j) ∙ e)

pub xor_differ : (F a b j : ℕ) → bit_at F (bit_xor a b) j ≡ 1 → bit_at F a j ≢ bit_at F b j
xor_differ F a b j e same =
    let z : differ (bit_at F a j) (bit_at F b j) ≡ 0 = ap (λ (n : ℕ). differ n (bit_at F b j)) same ∙ differ_self (bit_at F b j) in
    omega (arith, e, bit_of_xor F a b j)

-- above the bits of a number stand zeros
pub bit_above : (F s k j : ℕ) → s < 2 ^ k → k ≤ F - j → bit_at F s j ≡ 0
bit_above F s k j h l =
    let small : s < 2 ^ (F - j) = omega (arith, pow_mono l) in
    ap (λ (n : ℕ). n % 2) (div-eq_of_lt small)

-- the number with position j alone set
pub bit_one_here : (F j : ℕ) → bit_at F (2 ^ (F - j)) j ≡ 1
bit_one_here F j = ap (λ (n : ℕ). n % 2) (div_self (pow_pos (F - j)))

pub bit_one_elsewhere : (F j i : ℕ) → j ≤ F → i ≤ F → i ≢ j → bit_at F (2 ^ (F - j)) i ≡ 0
bit_one_elsewhere F j i hj hi ne = go (dec_lt i j)
  where
    go : Dec (i < j) → 2 ^ (F - j) / 2 ^ (F - i) % 2 ≡ 0
    go (yes l) =
        let h : F - j < F - i = omega arith in
        ap (λ (n : ℕ). n % 2) (div-eq_of_lt (pow-lt h))
    go (no g) =
        let d : ℕ = F - j - (F - i) - 1 in
        let e : F - j ≡ suc d + (F - i) = omega arith in
        ap (λ (n : ℕ). 2 ^ n / 2 ^ (F - i) % 2) e
        ∙ ap (λ (n : ℕ). n / 2 ^ (F - i) % 2) (pow-add 2 (suc d) (F - i))
        ∙ ap (λ (n : ℕ). n % 2) (mul-div_cancel (2 ^ suc d) (pow_pos (F - i)))
        ∙ omega (arith, pow-suc 2 d)

pub bit_one_fits : (F j : ℕ) → 1 ≤ j → j ≤ F → 2 ^ (F - j) < 2 ^ F
bit_one_fits F j p h =
    let l : F - j < F = omega arith in
    pow-lt l

pub half_below : (F n : ℕ) → n < 2 ^ suc F → n / 2 < 2 ^ F
half_below F n h = omega (arith, pow-suc 2 F)

pub bits_equal : (F a b : ℕ) → a < 2 ^ F → b < 2 ^ F → ((j : ℕ) → 1 ≤ j → j ≤ F → bit_at F a j ≡ bit_at F b j) → a ≡ b
bits_equal zero a b ha hb same = lt-one ha ∙ sym (lt-one hb)
bits_equal (suc F) a b ha hb same =
    sym (div-add-mod' a 2)
    ∙ ap₂ (λ (x y : ℕ). x * 2 + y)
    (bits_equal F (a / 2) (b / 2) (half_below F a ha) (half_below F b hb)
    (λ j p l. sym (bit_half F a j l) ∙ same j p (omega arith) ∙ bit_half F b j l))
    (sym (bit_last F a) ∙ same (suc F) (omega arith) (omega arith) ∙ bit_last F b)
    ∙ div-add-mod' b 2

below_pow : (n : ℕ) → n < 2 ^ n
below_pow zero = omega arith
below_pow (suc n) = omega (arith, pow-suc 2 n, below_pow n)

more_pow : (n m : ℕ) → n ≤ m → n < 2 ^ m
more_pow n m h = omega (arith, below_pow m)

-- the OR may be grouped either way: the bits agree at a width that holds all three
pub or_assoc : (a b c : ℕ) → bit_or (bit_or a b) c ≡ bit_or a (bit_or b c)
or_assoc a b c =
    let F : ℕ = a + b + c in
    let ha : a < 2 ^ F = more_pow a F (omega arith) in
    let hb : b < 2 ^ F = more_pow b F (omega arith) in
    let hc : c < 2 ^ F = more_pow c F (omega arith) in
    bits_equal F (bit_or (bit_or a b) c) (bit_or a (bit_or b c))
    (or_lt F (bit_or a b) c (or_lt F a b ha hb) hc) (or_lt F a (bit_or b c) ha (or_lt F b c hb hc))
    (λ j p h. omega (arith, bit_of_or F (bit_or a b) c j, bit_of_or F a b j, bit_of_or F a (bit_or b c) j, bit_of_or F b c j))
