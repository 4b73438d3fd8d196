-- What the walk asks of a query, by its words: the side at a position is a bit of its one word, or of one of its many; and signatures of one
-- word are the slice that holds them.
-- Assumes nothing.
use Prim.Native.Nat.{ℕ, ◌*◌, ◌/◌, ◌%◌, ◌^◌, ◌≤◌}
use native.Mathlib.Nat.{mul-one}
use native.Mathlib.Omega.{arith}
use mathlib.Core.Path.{◌≡◌, sym, ◌∙◌, ap, ap₂}
use mathlib.Core.List.{List}
use lib.Bits.{bit_and, and_mask}
use lib.Dec.{eqb}
use lib.ListN.{length, get_or}
use Rattle.model.specs.Limits.{word_bits}
use Rattle.model.specs.Wide.{word_count, word_of, AreWords, number_in, signatures_in}
use Rattle.model.specs.Tables.{width_of}
use Rattle.model.proofs.Wide.{signatures_one}
use Rattle.signature.proofs.Wide.{word_bit}
use Rattle.tables.specs.declared.rows.Rows.{Rows}
use Rattle.tables.specs.Rows.{numbers}
use Rattle.search.specs.Search.{from_right, read_at, side_at}

-- one word: the shift is by less than 64, and the mask by 1 is the remainder by 2
pub one_side : (F q p : ℕ) → word_bits ≡ word_bits * word_count F → eqb (bit_and (q / 2 ^ (from_right F p % word_bits)) 1) 1 ≡ eqb (side_at F q p) 1
unfolding side_at
one_side F q p one =
    let e : from_right F p % word_bits ≡ read_at F p = omega arith in
    ap (λ (n : ℕ). eqb n 1) (and_mask (q / 2 ^ (from_right F p % word_bits)) 1 ∙ ap (λ (k : ℕ). q / 2 ^ k % 2) e)

-- words: bit k of the number is bit k % 64 of word k / 64 from the low end
pub many_side : (F p : ℕ) (ws : List ℕ) → AreWords ws → 1 ≤ F → word_bits * length ws ≡ word_bits * word_count F → (i : ℕ) → i ≡ word_of (length ws) (from_right F p)
    → eqb (bit_and (get_or ws i 0 / 2 ^ (from_right F p % word_bits)) 1) 1 ≡ eqb (side_at F (number_in ws) p) 1
unfolding side_at
many_side F p ws h from many i e =
    let j : i ≡ word_of (length ws) (read_at F p) = omega arith in
    let d : from_right F p % word_bits ≡ read_at F p % word_bits = omega arith in
    ap (λ (n : ℕ). eqb n 1)
    (and_mask (get_or ws i 0 / 2 ^ (from_right F p % word_bits)) 1 ∙ ap₂ (λ (x s : ℕ). get_or ws x 0 / 2 ^ s % 2) j d ∙ sym (word_bit ws h (read_at F p) (omega arith)))

-- tables of a width of one word
module _ (r : Rows) (one : word_bits ≡ word_bits * word_count (width_of r.links.now)) where
  one_word : r.words ≡ 1
  one_word = omega (arith, r.fit.each)

  pub one_each : r.blocks ≡ length r.signatures.now
  one_each = sym (r.fit.long ∙ ap (λ (n : ℕ). r.blocks * n) one_word ∙ mul-one r.blocks)

  pub one_numbers : numbers r ≡ r.signatures.now
  one_numbers = ap₂ (λ (W B : ℕ). signatures_in W B r.signatures.now) one_word one_each ∙ signatures_one r.signatures.now
