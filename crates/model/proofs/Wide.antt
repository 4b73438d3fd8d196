-- Signatures in words: a slice spells as many numbers as it is asked for, each from its own W words; setting a block's words sets its
-- number and no other; and the number and the words of a signature determine each other.
-- Assumes nothing.
use mathlib.Core.Path.{◌≡◌, refl, sym, ap, ap₂, ◌∙◌}
use mathlib.Core.List.{List, [], ◌∷◌, ◌++◌, append_assoc}
use Prim.Native.Nat.{ℕ, zero, suc, ◌+◌, ◌-◌, ◌*◌, ◌/◌, ◌%◌, ◌^◌, ◌≤◌, ◌<◌}
use native.Mathlib.Nat.{suc-mul, zero-mul, add_comm, mul-le-mul_right, mod-lt}
use native.Mathlib.Omega.{arith}
use Rattle.std.proofs.lemmas.List.{get_or-replicate}
use lib.ListN.{length-replicate, length, get_or, take, drop, set, replicate, length-drop}
use lib.Pow.{pow_pos, pow-add, high, low, split}
use lib.Seq.{paste, paste-zero, paste-suc, length-paste, take-add, drop-drop, take_at, drop_at, take_all, length-take-le}
use Rattle.model.specs.Limits.{word_bits}
use Rattle.model.specs.Wide.{AreWords, number_in, words_for, signatures_in, set_words}

-- ---- the numbers of a slice

pub signatures_length : (W n : ℕ) (ws : List ℕ) → length (signatures_in W n ws) ≡ n
unfolding signatures_in
signatures_length W zero ws = refl
signatures_length W (suc n) ws = ap suc (signatures_length W n (drop W ws))

suc_times : (b W : ℕ) → suc b * W ≡ W + b * W
suc_times b W = suc-mul b W ∙ add_comm (b * W) W

-- a block's words end where the next block's begin
pub words_end : (b W : ℕ) → 1 ≤ b → (b - 1) * W + W ≡ b * W
words_end zero W h = absurd (omega arith)
words_end (suc b) W h = let e : suc b - 1 ≡ b = omega arith in ap (λ (k : ℕ). k * W + W) e ∙ sym (suc-mul b W)

-- and stand inside the slice
pub word_inside : (b W n j : ℕ) → 1 ≤ b → b * W ≤ n → j < W → (b - 1) * W + j < n
word_inside b W n j h l k = let e = words_end b W h in omega arith

-- number i of a slice is that of the W words from i * W on
pub signature_at : (W n : ℕ) (ws : List ℕ) (i : ℕ) → i < n → get_or (signatures_in W n ws) i 0 ≡ number_in (take W (drop (i * W) ws))
unfolding signatures_in
signature_at W zero ws i h = absurd (omega arith)
signature_at W (suc n) ws zero h = ap (λ (k : ℕ). number_in (take W (drop k ws))) (sym (zero-mul W))
signature_at W (suc n) ws (suc i) h =
    signature_at W n (drop W ws) i (omega arith)
    ∙ ap (λ (l : List ℕ). number_in (take W l)) (drop-drop (i * W) W ws ∙ ap (λ (k : ℕ). drop k ws) (sym (suc_times i W)))

-- a block's words are those of its number, whatever the number of blocks
pub own_number : (W B : ℕ) (ws : List ℕ) (b : ℕ) → 1 ≤ b → b ≤ B → number_in (take W (drop ((b - 1) * W) ws)) ≡ get_or (signatures_in W B ws) (b - 1) 0
own_number W B ws b h k = sym (signature_at W B ws (b - 1) (omega arith))

-- ---- setting a block's words

-- a copy beyond the first W words leaves these, and is a copy into the rest
paste_add : (ws : List ℕ) (W m : ℕ) (s : List ℕ) (n : ℕ) → paste ws (W + m) s n ≡ take W ws ++ paste (drop W ws) m s n
paste_add ws W m s n =
    ap₂ (λ (x y : List ℕ). (x ++ take n s) ++ y) (take-add W m ws) (ap (λ (k : ℕ). drop k ws) (assoc W m n) ∙ sym (drop-drop (m + n) W ws))
    ∙ regroup (take W ws) (take m (drop W ws)) (take n s) (drop (m + n) (drop W ws))
  where
    assoc : (a b c : ℕ) → a + b + c ≡ a + (b + c)
    assoc a b c = omega arith

    regroup : (a b c d : List ℕ) → ((a ++ b) ++ c) ++ d ≡ a ++ ((b ++ c) ++ d)
    regroup a b c d = simp append_assoc

module _ (W : ℕ) (s : List ℕ) (long : length s ≡ W) where
  own_words : (ws : List ℕ) → paste ws (0 * W) s W ≡ s ++ drop W ws
  own_words ws =
      let e : W ≡ length s = sym long in
      let f : length s ≤ W = omega arith in
      let g : 0 + W ≡ W = omega arith in
      ap (λ (k : ℕ). (take k ws ++ take W s) ++ drop (k + W) ws) (zero-mul W)
      ∙ ap₂ (λ (x : List ℕ) (k : ℕ). x ++ drop k ws) (take_all W s f) g

  pub signatures_set : (n : ℕ) (ws : List ℕ) (i : ℕ) → i < n → n * W ≤ length ws → signatures_in W n (paste ws (i * W) s W) ≡ set (signatures_in W n ws) i (number_in s)
  unfolding signatures_in
  signatures_set zero ws i h l = absurd (omega arith)
  signatures_set (suc n) ws zero h l =
      let e = own_words ws in
      ap (λ (x : List ℕ). number_in (take W x) ∷ signatures_in W n (drop W x)) e
      ∙ ap₂ (λ (x y : List ℕ). number_in x ∷ signatures_in W n y) (take_at s (drop W ws) W long) (drop_at s (drop W ws) W long)
  signatures_set (suc n) ws (suc i) h l =
      let k : W ≤ length ws = omega (arith, suc_times n W) in
      let f : length (take W ws) ≡ W = length-take-le W ws k in
      let g : n * W ≤ length (drop W ws) = simp length-drop (omega (arith, suc_times n W)) in
      let e : paste ws (suc i * W) s W ≡ take W ws ++ paste (drop W ws) (i * W) s W = ap (λ (k : ℕ). paste ws k s W) (suc_times i W) ∙ paste_add ws W (i * W) s W in
      ap (λ (x : List ℕ). number_in (take W x) ∷ signatures_in W n (drop W x)) e
      ∙ ap₂ (λ (x y : List ℕ). number_in x ∷ signatures_in W n y)
      (take_at (take W ws) (paste (drop W ws) (i * W) s W) W f) (drop_at (take W ws) (paste (drop W ws) (i * W) s W) W f)
      ∙ ap (λ (l : List ℕ). number_in (take W ws) ∷ l) (signatures_set n (drop W ws) i (omega arith) g)

-- the slice with a block's words set holds the numbers with that block's set
pub set_words_paste : (W : ℕ) (ws : List ℕ) (b : ℕ) (s : List ℕ) → length s ≡ W → set_words W ws b s ≡ paste ws ((b - 1) * W) s W
set_words_paste W ws b s long =
    let f : length s ≤ W = omega arith in
    ap (λ (x : List ℕ). take ((b - 1) * W) ws ++ x ++ drop ((b - 1) * W + W) ws) (sym (take_all W s f))

pub signatures_set_words : (W n : ℕ) (ws : List ℕ) (b : ℕ) (s : List ℕ) → length s ≡ W → 1 ≤ b → b ≤ n → n * W ≤ length ws
    → signatures_in W n (set_words W ws b s) ≡ set (signatures_in W n ws) (b - 1) (number_in s)
signatures_set_words W n ws b s long h k l =
    ap (signatures_in W n) (set_words_paste W ws b s long) ∙ signatures_set W s long n ws (b - 1) (omega arith) l

-- and is as long as it was
pub set_words_length : (W : ℕ) (ws : List ℕ) (b : ℕ) (s : List ℕ) → length s ≡ W → 1 ≤ b → b * W ≤ length ws → length (set_words W ws b s) ≡ length ws
set_words_length W ws b s long h l =
    ap (λ (x : List ℕ). length x) (set_words_paste W ws b s long) ∙ length-paste ws ((b - 1) * W) s W (rw (words_end b W h) l) (omega (arith, long))

-- ---- zeros, and one word

pub number_zeros : (n : ℕ) → number_in (replicate n 0) ≡ 0
unfolding number_in
number_zeros zero = refl
number_zeros (suc n) = ap₂ ◌+◌ (zero-mul (2 ^ (word_bits * length (replicate n 0)))) (number_zeros n)

take_zeros : (k n : ℕ) → k ≤ n → take {A = ℕ} k (replicate n 0) ≡ replicate k 0
take_zeros zero n h = refl
take_zeros (suc k) zero h = absurd (omega arith)
take_zeros (suc k) (suc n) h = ap (λ (l : List ℕ). 0 ∷ l) (take_zeros k n (omega arith))

drop_zeros : (k n m : ℕ) → m ≡ k + n → drop {A = ℕ} k (replicate m 0) ≡ replicate n 0
drop_zeros zero n m e = let f : m ≡ n = omega arith in ap (λ (i : ℕ). replicate i 0) f
drop_zeros (suc k) n zero e = absurd (omega arith)
drop_zeros (suc k) n (suc m) e = drop_zeros k n m (omega arith)

pub signatures_zeros : (W n : ℕ) → signatures_in W n (replicate (n * W) 0) ≡ replicate n 0
unfolding signatures_in
signatures_zeros W zero = refl
signatures_zeros W (suc n) =
    let e : suc n * W ≡ W + n * W = suc_times n W in
    ap (λ (k : ℕ). signatures_in W (suc n) (replicate k 0)) e
    ∙ ap₂ (λ (x : ℕ) (y : List ℕ). x ∷ signatures_in W n y)
    (ap number_in (take_zeros W (W + n * W) (omega arith)) ∙ number_zeros W) (drop_zeros W (n * W) (W + n * W) refl)
    ∙ ap (λ (l : List ℕ). 0 ∷ l) (signatures_zeros W n)

-- a slice of one word to a signature is its signatures
pub signatures_one : (ws : List ℕ) → signatures_in 1 (length ws) ws ≡ ws
unfolding signatures_in number_in
signatures_one [] = refl
signatures_one (w ∷ ws) = ap₂ (λ (x : ℕ) (l : List ℕ). x ∷ l) (omega arith) (signatures_one ws)

-- one word is its number
pub number_one : (ws : List ℕ) → length ws ≡ 1 → number_in ws ≡ get_or ws 0 0
unfolding number_in
number_one [] e = absurd (omega arith)
number_one (w ∷ []) e = omega arith
number_one (w ∷ v ∷ ws) e = absurd (omega arith)

-- ---- the number of some words, and the words of a number

-- n words are a number of 64 n bits
pub number_below : (ws : List ℕ) → AreWords ws → number_in ws < 2 ^ (word_bits * length ws)
unfolding number_in
number_below [] h = omega arith
number_below (w ∷ ws) h =
    let m : ℕ = word_bits * length ws in
    let e : word_bits * suc (length ws) ≡ word_bits + m = omega arith in
    let a : w < 2 ^ word_bits = h 0 in
    let b : number_in ws < 2 ^ m = number_below ws (λ i. h (suc i)) in
    let c : suc w * 2 ^ m ≤ 2 ^ word_bits * 2 ^ m = mul-le-mul_right (2 ^ m) a in
    let d : 2 ^ (word_bits * suc (length ws)) ≡ 2 ^ word_bits * 2 ^ m = ap (λ (k : ℕ). 2 ^ k) e ∙ pow-add 2 word_bits m in
    omega (arith, suc-mul w (2 ^ m))

pub words_length : (n s : ℕ) → length (words_for n s) ≡ n
unfolding words_for
words_length zero s = refl
words_length (suc n) s = ap suc (words_length n (s % 2 ^ (word_bits * n)))

-- from a number to its words and back
pub number_words : (n s : ℕ) → s < 2 ^ (word_bits * n) → number_in (words_for n s) ≡ s
unfolding words_for number_in
number_words zero s h = omega arith
number_words (suc n) s h =
    let m : ℕ = word_bits * n in
    ap₂ (λ (k x : ℕ). s / 2 ^ m * 2 ^ (word_bits * k) + x) (words_length n (s % 2 ^ m)) (number_words n (s % 2 ^ m) (mod-lt s (pow_pos m)))
    ∙ split s m

-- and from words to their number and back
pub words_number : (ws : List ℕ) → AreWords ws → words_for (length ws) (number_in ws) ≡ ws
unfolding words_for number_in
words_number [] h = refl
words_number (w ∷ ws) h =
    let m : ℕ = word_bits * length ws in
    let b : number_in ws < 2 ^ m = number_below ws (λ i. h (suc i)) in
    ap₂ (λ (x y : ℕ). x ∷ words_for (length ws) y) (high w m b) (low w m b)
    ∙ ap (λ (l : List ℕ). w ∷ l) (words_number ws (λ i. h (suc i)))

-- ---- copying words, one after the other

pub copy_first : (d : List ℕ) (at : ℕ) (s : List ℕ) → at + 0 < length d → 1 ≤ length s → set d at (get_or s 0 0) ≡ paste d at s 1
copy_first d at s h k =
    let e : at + 0 ≡ at = omega arith in
    ap (λ (n : ℕ). set d n (get_or s 0 0)) (sym e) ∙ ap (λ (l : List ℕ). set l (at + 0) (get_or s 0 0)) (paste-zero d at s) ∙ paste-suc d at s 0 0 h k

pub copy_next : (d : List ℕ) (at : ℕ) (s : List ℕ) (j : ℕ) (l : List ℕ) → l ≡ paste d at s j → at + j < length d → j < length s → set l (at + j) (get_or s j 0) ≡ paste d at s (j + 1)
copy_next d at s j l e h k =
    let n : suc j ≡ j + 1 = omega arith in
    ap (λ (m : List ℕ). set m (at + j) (get_or s j 0)) e ∙ paste-suc d at s j 0 h k ∙ ap (paste d at s) n

-- the same of zeros
pub zero_first : (d : List ℕ) (at W : ℕ) → at + 0 < length d → 1 ≤ W → set d at 0 ≡ paste d at (replicate W 0) 1
zero_first d at W h k =
    let l : 1 ≤ length (replicate W 0) = omega (arith, length-replicate {A = ℕ} W 0) in
    ap (set d at) (sym (get_or-replicate W 0 0 0 k)) ∙ copy_first d at (replicate W 0) h l

pub zero_next : (d : List ℕ) (at W j : ℕ) (l : List ℕ) → l ≡ paste d at (replicate W 0) j → at + j < length d → j < W → set l (at + j) 0 ≡ paste d at (replicate W 0) (j + 1)
zero_next d at W j l e h k =
    let n : j < length (replicate W 0) = omega (arith, length-replicate {A = ℕ} W 0) in
    ap (set l (at + j)) (sym (get_or-replicate W j 0 0 k)) ∙ copy_next d at (replicate W 0) j l e h n
