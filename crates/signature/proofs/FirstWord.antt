-- The first difference of two signatures in words stands in the first word in which they differ, at that word's first difference.
-- Assumes nothing.
use mathlib.Core.Path.{◌≡◌, sym, ap, ap₂, ◌∙◌}
use mathlib.Core.Logic.{◌≢◌}
use mathlib.Core.List.{List}
use Prim.Native.Nat.{ℕ, suc, ◌+◌, ◌-◌, ◌*◌, ◌/◌, ◌%◌, ◌^◌, ◌≤◌, ◌<◌}
use native.Mathlib.Nat.{pos_of_ne-zero, lt_of_lt_of_le, div-eq_of_lt, div-eq_of_lt-le, pow-suc}
use native.Mathlib.Decide.{dec_lt, ℕ_discrete}
use native.Mathlib.Omega.{arith}
use lib.ListN.{length, get_or}
use lib.Pow.{pow_mono}
use lib.Bits.{bit_xor, xor_lt}
use lib.Count.{count_leading_zeros, leading_top}
use Rattle.model.specs.Limits.{word_bits}
use Rattle.model.specs.Wide.{AreWords, number_in}
use Rattle.model.specs.Signature.{bit_at}
use Rattle.signature.proofs.Bits.{bits_equal, bit_zero, bit_above, xor_agree, xor_differ}
use Rattle.signature.proofs.Wide.{word_bit, position_in}
use Rattle.signature.proofs.Difference.{IsFirst}

-- ---- two words

-- the highest set bit of the exclusive OR, and the position that the code makes of it
record Top (a b : ℕ) : Type 0 where
  k : ℕ
  count : count_leading_zeros word_bits (bit_xor a b) + suc k ≡ word_bits
  above : bit_xor a b < 2 ^ suc k
  set : 2 ^ k ≤ bit_xor a b

top : (a b : ℕ) → a < 2 ^ word_bits → b < 2 ^ word_bits → a ≢ b → Top a b
top a b ha hb ne =
    let x : ℕ = bit_xor a b in
    let hx : x < 2 ^ word_bits = xor_lt word_bits a b ha hb in
    let pos : x ≢ 0 = λ e. ne (bits_equal word_bits a b ha hb (λ j p h. xor_agree word_bits a b j (ap (λ (n : ℕ). bit_at word_bits n j) e ∙ bit_zero word_bits j))) in
    let t = leading_top word_bits x (pos_of_ne-zero pos) hx in
    record { k = t.0; count = t.1; above = t.3; set = t.2 }

-- the bit at position 64 - k of a number from 2 ^ k to below 2 ^ (k + 1)
highest : (k x : ℕ) → k < word_bits → 2 ^ k ≤ x → x < 2 ^ suc k → bit_at word_bits x (word_bits - k) ≡ 1
highest k x h l u =
    let e : word_bits - (word_bits - k) ≡ k = omega arith in
    ap (λ (n : ℕ). x / 2 ^ n % 2) e ∙ ap (λ (n : ℕ). n % 2) (div-eq_of_lt-le {k = 1} (2 ^ k) (omega arith) (omega (arith, pow-suc 2 k)))

pub word_first : (a b : ℕ) → a < 2 ^ word_bits → b < 2 ^ word_bits → a ≢ b → IsFirst word_bits a b (count_leading_zeros word_bits (bit_xor a b) + 1)
word_first a b ha hb ne =
    let t : Top a b = top a b ha hb ne in
    let c : count_leading_zeros word_bits (bit_xor a b) + suc t.k ≡ word_bits = t.count in
    let h : t.k < word_bits = omega arith in
    let e : count_leading_zeros word_bits (bit_xor a b) + 1 ≡ word_bits - t.k = omega arith in
    record {
      low = omega arith;
      high = omega arith;
      differs = λ q. xor_differ word_bits a b (word_bits - t.k) (highest t.k (bit_xor a b) h t.set t.above) (ap (bit_at word_bits a) (sym e) ∙ q ∙ ap (bit_at word_bits b) e);
      before = λ i p l. xor_agree word_bits a b i (bit_above word_bits (bit_xor a b) (suc t.k) i t.above (omega arith));
    }

-- ---- words that agree so far

abbrev pub Agree : List ℕ → List ℕ → ℕ → Type 0
Agree xs ys n = (k : ℕ) → k < n → get_or xs k 0 ≡ get_or ys k 0

-- ---- two signatures

-- where bit k of a number in n words stands
word_place : (n i p k : ℕ) → i < n → 1 ≤ p → p ≤ word_bits → k + (word_bits * i + p) ≡ word_bits * n → n - 1 - k / word_bits ≡ i
word_place n i p k h p1 p2 e = omega arith

bit_place : (n i p k : ℕ) → i < n → 1 ≤ p → p ≤ word_bits → k + (word_bits * i + p) ≡ word_bits * n → k % word_bits ≡ word_bits - p
bit_place n i p k h p1 p2 e = omega arith

module _ (F i p : ℕ) (xs ys : List ℕ) (long : length xs ≡ length ys) (hx : AreWords xs) (hy : AreWords ys) (fit : F ≤ word_bits * length ys)
    (fx : number_in xs < 2 ^ F) (fy : number_in ys < 2 ^ F) (inside : i < length ys)
    (same : Agree xs ys i) (w : IsFirst word_bits (get_or xs i 0) (get_or ys i 0) p) where
  -- the difference is not in unused bits, as both numbers fit
  used : word_bits * length ys - F < word_bits * i + p
  used = go (dec_lt (word_bits * length ys - F) (word_bits * i + p))
    where
      zero_bit : (n k : ℕ) → n < 2 ^ F → F ≤ k → n / 2 ^ k % 2 ≡ 0
      zero_bit n k h l = ap (λ (m : ℕ). m % 2) (div-eq_of_lt (lt_of_lt_of_le h (pow_mono l)))

      go : Dec (word_bits * length ys - F < word_bits * i + p) → word_bits * length ys - F < word_bits * i + p
      go (yes h) = h
      go (no g) =
          let k : ℕ = word_bits * length ys - word_bits * i - p in
          let p1 : 1 ≤ p = w.low in
          let p2 : p ≤ word_bits = w.high in
          let at : k + (word_bits * i + p) ≡ word_bits * length ys = omega arith in
          let k_f : F ≤ k = omega arith in
          let ky : k < word_bits * length ys = omega arith in
          let kx : k < word_bits * length xs = omega arith in
          let ey : length ys - 1 - k / word_bits ≡ i = word_place (length ys) i p k inside p1 p2 at in
          let ex : length xs - 1 - k / word_bits ≡ i = ap (λ (n : ℕ). n - 1 - k / word_bits) long ∙ ey in
          let d : k % word_bits ≡ word_bits - p = bit_place (length ys) i p k inside p1 p2 at in
          let bx : get_or xs i 0 / 2 ^ (word_bits - p) % 2 ≡ 0 =
          sym (word_bit xs hx k kx ∙ ap₂ (λ (a b : ℕ). get_or xs a 0 / 2 ^ b % 2) ex d) ∙ zero_bit (number_in xs) k fx k_f in
          let by : get_or ys i 0 / 2 ^ (word_bits - p) % 2 ≡ 0 =
          sym (word_bit ys hy k ky ∙ ap₂ (λ (a b : ℕ). get_or ys a 0 / 2 ^ b % 2) ey d) ∙ zero_bit (number_in ys) k fy k_f in
          absurd (w.differs (bx ∙ sym by))

  pub words_first : IsFirst F (number_in xs) (number_in ys) (word_bits * i + p - (word_bits * length ys - F))
  words_first =
      let u = used in
      let p1 : 1 ≤ p = w.low in
      let p2 : p ≤ word_bits = w.high in
      let P : ℕ = word_bits * i + p - (word_bits * length ys - F) in
      let P1 : 1 ≤ P = omega arith in
      let P2 : P ≤ F = omega arith in
      record {
        low = P1;
        high = P2;
        differs = λ e. w.differs (sym (position_in xs hx F P i p P1 P2 (omega arith) (omega arith) p1 p2) ∙ e ∙ position_in ys hy F P i p P1 P2 fit (omega arith) p1 p2);
        before = earlier u p1 p2;
      }
    where
      earlier : word_bits * length ys - F < word_bits * i + p → 1 ≤ p → p ≤ word_bits → (j : ℕ) → 1 ≤ j → j < word_bits * i + p - (word_bits * length ys - F) → bit_at F (number_in xs) j ≡ bit_at F (number_in ys) j
      earlier u p1 p2 j j1 j2 =
          let place : ℕ = word_bits * length ys - F + j - 1 in
          let q : ℕ = place / word_bits in
          let d : ℕ = place % word_bits + 1 in
          position_in xs hx F j q d j1 (omega arith) (omega arith) (omega arith) (omega arith) (omega arith)
          ∙ word_same q d (omega arith) (omega arith)
          ∙ sym (position_in ys hy F j q d j1 (omega arith) fit (omega arith) (omega arith) (omega arith))
        where
          word_same : (q d : ℕ) → word_bits * q + d < word_bits * i + p → 1 ≤ d → bit_at word_bits (get_or xs q 0) d ≡ bit_at word_bits (get_or ys q 0) d
          word_same q d h d1 = pick (ℕ_discrete q i)
            where
              pick : Dec (q ≡ i) → bit_at word_bits (get_or xs q 0) d ≡ bit_at word_bits (get_or ys q 0) d
              pick (yes e) = ap (λ (n : ℕ). bit_at word_bits (get_or xs n 0) d) e ∙ w.before d d1 (omega arith) ∙ ap (λ (n : ℕ). bit_at word_bits (get_or ys n 0) d) (sym e)
              pick (no n) = ap (λ (s : ℕ). bit_at word_bits s d) (same q (omega arith))
