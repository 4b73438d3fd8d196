-- `signature::first_difference` meets its contract: the first difference stands in the first words that differ, at their first
-- difference, which the leading zeros of their exclusive OR count; the high word's unused bits are no positions.
-- Assumes nothing.
use mathlib.Core.Path.{◌≡◌, refl, sym, ◌∙◌}
use mathlib.Core.Logic.{◌≢◌}
use mathlib.Core.List.{List}
use Prim.Native.Nat.{ℕ, ◌+◌, ◌-◌, ◌*◌, ◌^◌, ◌≤◌, ◌<◌}
use native.Mathlib.Omega.{arith}
use lib.ListN.{length, get_or}
use lib.Bits.{bit_xor}
use lib.Count.{count_leading_zeros}
use Rattle.model.specs.Limits.{widest, word_bits}
use Rattle.model.specs.Wide.{word_count, AreWords, number_in}
use Rattle.model.specs.Signature.{first_difference}
use Rattle.signature.proofs.Difference.{first_is, first_unique}
use Rattle.signature.proofs.FirstWord.{Agree, word_first, words_first}
use Rattle.signature.proofs.first_difference.Goals as goal

-- the leading zeros that the code counts
abbrev zeros : List ℕ → List ℕ → ℕ → ℕ
zeros xs ys i = count_leading_zeros word_bits (bit_xor (get_or xs i 0) (get_or ys i 0))

-- what the code's sum is made of
record First (F : ℕ) (xs ys : List ℕ) (i : ℕ) : Type 0 where
  used : word_bits * length ys - F ≤ word_bits * i + zeros xs ys i
  value : word_bits * i + zeros xs ys i - (word_bits * length ys - F) + 1 ≡ first_difference F (number_in xs) (number_in ys)
  low : 1 ≤ word_bits * i + zeros xs ys i - (word_bits * length ys - F) + 1
  high : word_bits * i + zeros xs ys i - (word_bits * length ys - F) + 1 ≤ F

-- the code adds the one last
regroup : (a z u : ℕ) → u < a + (z + 1) → a + z - u + 1 ≡ a + (z + 1) - u
regroup a z u h = omega arith

first : (F : ℕ) (xs ys : List ℕ) (i : ℕ) → (1 ≤ F) × (F ≤ widest) × (length xs ≡ word_count F) × (length ys ≡ word_count F)
    → (number_in xs < 2 ^ F) × (number_in ys < 2 ^ F) × (number_in xs ≢ number_in ys) → AreWords xs → AreWords ys
    → (i < length ys) × (get_or xs i 0 ≢ get_or ys i 0) × Agree xs ys i → First F xs ys i
first F xs ys i s n hx hy r =
    let w = word_first (get_or xs i 0) (get_or ys i 0) (hx i) (hy i) r.1 in
    let a = s.2 in
    let b = s.3 in
    let f = words_first F i (zeros xs ys i + 1) xs ys (a ∙ sym b) hx hy (omega arith) n.0 n.1 r.0 r.2 w in
    let low = f.low in
    let high = f.high in
    let u : word_bits * length ys - F < word_bits * i + (zeros xs ys i + 1) = omega arith in
    let e : word_bits * i + zeros xs ys i - (word_bits * length ys - F) + 1 ≡ word_bits * i + (zeros xs ys i + 1) - (word_bits * length ys - F) = regroup (word_bits * i) (zeros xs ys i) (word_bits * length ys - F) u in
    record { used = omega arith; value = e ∙ first_unique f (first_is F (number_in xs) (number_in ys) n.0 n.1 n.2); low = omega arith; high = omega arith }

pub overflow_sub-number : goal.overflow_sub-number
overflow_sub-number c =
    (first c.args.width c.args.a.now c.args.b.now c.first_word-i.result c.requires.lengths c.requires.differ (λ i. (c.type_inv.a i).fits) (λ i. (c.type_inv.b i).fits) c.first_word-i.ensures).used

pub invariant_of-result : goal.invariant_of-result
invariant_of-result c =
    let f = first c.args.width c.args.a.now c.args.b.now c.first_word-i.result c.requires.lengths c.requires.differ (λ i. (c.type_inv.a i).fits) (λ i. (c.type_inv.b i).fits) c.first_word-i.ensures in
    record { inside = (f.low, f.high); narrow = c.requires.lengths.1 }

pub returns : goal.returns
returns c =
    let f = first c.args.width c.args.a.now c.args.b.now c.first_word-i.result c.requires.lengths c.requires.differ (λ i. (c.type_inv.a i).fits) (λ i. (c.type_inv.b i).fits) c.first_word-i.ensures in
    (f.value, refl)
