-- The bits of a signature in words: bit k of the number is bit k % 64 of word k / 64 from the low end, and the tests of two signatures
-- go word by word, since the number is the high word's and the rest's side by side.
-- Assumes nothing.
use mathlib.Core.Path.{◌≡◌, refl, sym, ap, ap₂, ◌∙◌}
use mathlib.Core.Bool.{Bool, true, false, ◌&&◌}
use mathlib.Core.Logic.{◌≢◌}
use mathlib.Core.List.{List, [], ◌∷◌}
use Prim.Native.Nat.{ℕ, zero, suc, ◌+◌, ◌-◌, ◌*◌, ◌/◌, ◌%◌, ◌^◌, ◌≤◌, ◌<◌}
use native.Mathlib.Nat.{add-zero, zero-mul, suc-mul, pow-suc, mul_assoc, mul_comm, mul-add-div_right, mul-le-mul_right}
use native.Mathlib.Decide.{dec_lt, ℕ_discrete}
use native.Mathlib.Omega.{arith}
use lib.Dec.{eqb, ltb}
use lib.ListN.{length, get_or, set, drop, replicate, drop_of_length-le, length-set, length-replicate, get_or-replicate}
use lib.Pow.{pow_pos, pow-add, pow-lt, high, low, shr-shr}
use lib.Bits.{bit_and, bit_or, and_block, and_lt, and_zero_r, or_block, or_zero_r}
use lib.Seq.{drop-cons}
use borrow.Author.Tests.{eq-eqb, ne_eqb, lt-ltb, le-ltb}
use Rattle.model.specs.Limits.{word_bits}
use Rattle.model.specs.Wide.{AreWords, number_in}
use Rattle.model.specs.Signature.{bit_at}
use Rattle.model.proofs.Wide.{number_below, number_zeros}

-- ---- one bit

-- below the high word
low_bit : (w m c k : ℕ) → k < m → (w * 2 ^ m + c) / 2 ^ k % 2 ≡ c / 2 ^ k % 2
low_bit w m c k h =
    let d : ℕ = m - k - 1 in
    let e : m ≡ suc d + k = omega arith in
    let f : w * 2 ^ m ≡ w * 2 ^ suc d * 2 ^ k = ap (λ (n : ℕ). w * 2 ^ n) e ∙ ap (λ (n : ℕ). w * n) (pow-add 2 (suc d) k) ∙ sym (mul_assoc w (2 ^ suc d) (2 ^ k)) in
    let g : (w * 2 ^ m + c) / 2 ^ k ≡ w * 2 ^ suc d + c / 2 ^ k = ap (λ (n : ℕ). (n + c) / 2 ^ k) f ∙ mul-add-div_right (pow_pos k) (w * 2 ^ suc d) c in
    let i : w * 2 ^ suc d ≡ w * 2 ^ d * 2 = ap (λ (n : ℕ). w * n) (pow-suc 2 d) ∙ sym (mul_assoc w (2 ^ d) 2) in
    ap (λ (n : ℕ). n % 2) g ∙ omega arith

-- in the high word
high_bit : (w m c j : ℕ) → c < 2 ^ m → (w * 2 ^ m + c) / 2 ^ (m + j) % 2 ≡ w / 2 ^ j % 2
high_bit w m c j h = ap (λ (n : ℕ). n % 2) (sym (shr-shr (w * 2 ^ m + c) m j) ∙ ap (λ (n : ℕ). n / 2 ^ j) (high w m h))

pub word_bit : (ws : List ℕ) → AreWords ws → (k : ℕ) → k < word_bits * length ws → number_in ws / 2 ^ k % 2 ≡ get_or ws (length ws - 1 - k / word_bits) 0 / 2 ^ (k % word_bits) % 2
unfolding number_in
word_bit [] h k l = absurd (omega arith)
word_bit (w ∷ ws) h k l = go (word_bit ws (λ i. h (suc i)) k) (dec_lt k (word_bits * length ws))
  where
    go : (k < word_bits * length ws → number_in ws / 2 ^ k % 2 ≡ get_or ws (length ws - 1 - k / word_bits) 0 / 2 ^ (k % word_bits) % 2)
        → Dec (k < word_bits * length ws)
        → (w * 2 ^ (word_bits * length ws) + number_in ws) / 2 ^ k % 2 ≡ get_or (w ∷ ws) (length (w ∷ ws) - 1 - k / word_bits) 0 / 2 ^ (k % word_bits) % 2
    go rest (yes y) =
        let e : length (w ∷ ws) - 1 - k / word_bits ≡ suc (length ws - 1 - k / word_bits) = omega arith in
        low_bit w (word_bits * length ws) (number_in ws) k y
        ∙ rest y
        ∙ ap (λ (i : ℕ). get_or (w ∷ ws) i 0 / 2 ^ (k % word_bits) % 2) (sym e)
    go rest (no n) =
        let e : length (w ∷ ws) - 1 - k / word_bits ≡ 0 = omega arith in
        let f : k ≡ word_bits * length ws + k % word_bits = omega arith in
        ap (λ (i : ℕ). (w * 2 ^ (word_bits * length ws) + number_in ws) / 2 ^ i % 2) f
        ∙ high_bit w (word_bits * length ws) (number_in ws) (k % word_bits) (number_below ws (λ i. h (suc i)))
        ∙ ap (λ (i : ℕ). get_or (w ∷ ws) i 0 / 2 ^ (k % word_bits) % 2) (sym e)

-- ---- a width

-- the number fits a width that ends in the high word exactly where the high word fits what is left
pub high_fits : (w c m j : ℕ) → c < 2 ^ m → ltb (w * 2 ^ m + c) (2 ^ (m + j)) ≡ ltb w (2 ^ j)
high_fits w c m j h = go (dec_lt w (2 ^ j))
  where
    p : 2 ^ (m + j) ≡ 2 ^ j * 2 ^ m
    p = pow-add 2 m j ∙ mul_comm (2 ^ m) (2 ^ j)

    go : Dec (w < 2 ^ j) → ltb (w * 2 ^ m + c) (2 ^ (m + j)) ≡ ltb w (2 ^ j)
    go (yes l) =
        let a : suc w * 2 ^ m ≤ 2 ^ j * 2 ^ m = mul-le-mul_right (2 ^ m) l in
        lt-ltb (w * 2 ^ m + c) (2 ^ (m + j)) (omega (arith, p, suc-mul w (2 ^ m))) ∙ sym (lt-ltb w (2 ^ j) l)
    go (no g) =
        let l : 2 ^ j ≤ w = omega arith in
        let a : 2 ^ j * 2 ^ m ≤ w * 2 ^ m = mul-le-mul_right (2 ^ m) l in
        le-ltb (w * 2 ^ m + c) (2 ^ (m + j)) (omega (arith, p)) ∙ sym (le-ltb w (2 ^ j) l)

-- ---- two signatures, word by word

unfoldable pub each_word : (ℕ → ℕ → Bool) → List ℕ → List ℕ → Bool
each_word test [] ys = true
each_word test (a ∷ xs) [] = true
each_word test (a ∷ xs) (b ∷ ys) = test a b && each_word test xs ys

-- two numbers of a high and a low part are equal exactly where the parts are
eqb_block : (m x y u v : ℕ) → u < 2 ^ m → v < 2 ^ m → eqb (x * 2 ^ m + u) (y * 2 ^ m + v) ≡ (eqb x y && eqb u v)
eqb_block m x y u v hu hv = go (ℕ_discrete x y) (ℕ_discrete u v)
  where
    go : Dec (x ≡ y) → Dec (u ≡ v) → eqb (x * 2 ^ m + u) (y * 2 ^ m + v) ≡ (eqb x y && eqb u v)
    go (yes e) (yes f) =
        eq-eqb (x * 2 ^ m + u) (y * 2 ^ m + v) (ap₂ (λ (a b : ℕ). a * 2 ^ m + b) e f) ∙ sym (ap₂ ◌&&◌ (eq-eqb x y e) (eq-eqb u v f))
    go (yes e) (no g) =
        ne_eqb (x * 2 ^ m + u) (y * 2 ^ m + v) (λ q. g (sym (low x m hu) ∙ ap (λ (n : ℕ). n % 2 ^ m) q ∙ low y m hv)) ∙ sym (ap₂ ◌&&◌ (eq-eqb x y e) (ne_eqb u v g))
    go (no g) f =
        ne_eqb (x * 2 ^ m + u) (y * 2 ^ m + v) (λ q. g (sym (high x m hu) ∙ ap (λ (n : ℕ). n / 2 ^ m) q ∙ high y m hv))
        ∙ sym (ap (λ (t : Bool). t && eqb u v) (ne_eqb x y g))

pub each_same : (xs ys : List ℕ) → length xs ≡ length ys → AreWords xs → AreWords ys → eqb (number_in xs) (number_in ys) ≡ each_word eqb xs ys
unfolding number_in each_word
each_same [] [] e ha hb = refl
each_same [] (b ∷ ys) e ha hb = absurd (omega arith)
each_same (a ∷ xs) [] e ha hb = absurd (omega arith)
each_same (a ∷ xs) (b ∷ ys) e ha hb =
    let f : length xs ≡ length ys = omega arith in
    let m : ℕ = word_bits * length ys in
    let r : ℕ = number_in xs in
    let s : ℕ = number_in ys in
    let hs : s < 2 ^ m = number_below ys (λ i. hb (suc i)) in
    let hr : r < 2 ^ m = rw f at (number_below xs (λ i. ha (suc i))) in
    ap (λ (n : ℕ). eqb (a * 2 ^ (word_bits * n) + r) (b * 2 ^ m + s)) f
    ∙ eqb_block m a b r s hr hs
    ∙ ap (λ (t : Bool). eqb a b && t) (each_same xs ys f (λ i. ha (suc i)) (λ i. hb (suc i)))

-- the test of all words, where those before i pass: it goes on from word i, stops at a no, and ends with a yes
abbrev pub From : (ℕ → ℕ → Bool) → List ℕ → List ℕ → ℕ → Type 0
From test xs ys i = each_word test (drop i xs) (drop i ys) ≡ each_word test xs ys

module _ (test : ℕ → ℕ → Bool) (xs ys : List ℕ) (long : length xs ≡ length ys) where
  at_word : (i : ℕ) → i < length ys → each_word test (drop i xs) (drop i ys) ≡ (test (get_or xs i 0) (get_or ys i 0) && each_word test (drop (suc i) xs) (drop (suc i) ys))
  unfolding each_word
  at_word i h = let g : i < length xs = omega arith in ap₂ (each_word test) (drop-cons xs i 0 g) (drop-cons ys i 0 h)

  pub each_yes : (i : ℕ) → i < length ys → From test xs ys i → test (get_or xs i 0) (get_or ys i 0) ≡ true → From test xs ys (suc i)
  each_yes i h f t = sym (at_word i h ∙ ap (λ (b : Bool). b && each_word test (drop (suc i) xs) (drop (suc i) ys)) t) ∙ f

  pub each_no : (i : ℕ) → i < length ys → From test xs ys i → test (get_or xs i 0) (get_or ys i 0) ≡ false → each_word test xs ys ≡ false
  each_no i h f t = sym f ∙ at_word i h ∙ ap (λ (b : Bool). b && each_word test (drop (suc i) xs) (drop (suc i) ys)) t

  pub each_end : (i : ℕ) → length ys ≤ i → From test xs ys i → each_word test xs ys ≡ true
  unfolding each_word
  each_end i h f = sym f ∙ ap (λ (l : List ℕ). each_word test l (drop i ys)) (drop_of_length-le xs {i = i} (omega arith))

  -- words that pass are passed over
  pub each_over : (n i k : ℕ) → i + n ≡ k → k ≤ length ys → From test xs ys i → ((j : ℕ) → i ≤ j → j < k → test (get_or xs j 0) (get_or ys j 0) ≡ true) → From test xs ys k
  each_over zero i k e h f p = rw (sym e ∙ add-zero i) f
  each_over (suc n) i k e h f p =
      each_over n (suc i) k (omega arith) h (each_yes i (omega arith) f (p i (omega arith) (omega arith))) (λ j l. p j (omega arith))

-- ---- a mask over a signature, word by word

unfoldable pub and_words : List ℕ → List ℕ → List ℕ
and_words [] ys = []
and_words (a ∷ xs) [] = []
and_words (a ∷ xs) (b ∷ ys) = bit_and a b ∷ and_words xs ys

pub and_length : (xs ys : List ℕ) → length xs ≡ length ys → length (and_words xs ys) ≡ length ys
unfolding and_words
and_length [] [] e = refl
and_length [] (b ∷ ys) e = absurd (omega arith)
and_length (a ∷ xs) [] e = absurd (omega arith)
and_length (a ∷ xs) (b ∷ ys) e = ap suc (and_length xs ys (omega arith))

pub and_word : (xs ys : List ℕ) → length xs ≡ length ys → (i : ℕ) → get_or (and_words xs ys) i 0 ≡ bit_and (get_or xs i 0) (get_or ys i 0)
unfolding and_words
and_word [] [] e i = refl
and_word [] (b ∷ ys) e i = absurd (omega arith)
and_word (a ∷ xs) [] e i = absurd (omega arith)
and_word (a ∷ xs) (b ∷ ys) e zero = refl
and_word (a ∷ xs) (b ∷ ys) e (suc i) = and_word xs ys (omega arith) i

pub and_number : (xs ys : List ℕ) → length xs ≡ length ys → AreWords xs → AreWords ys → number_in (and_words xs ys) ≡ bit_and (number_in xs) (number_in ys)
unfolding number_in and_words
and_number [] [] e ha hb = refl
and_number [] (b ∷ ys) e ha hb = absurd (omega arith)
and_number (a ∷ xs) [] e ha hb = absurd (omega arith)
and_number (a ∷ xs) (b ∷ ys) e ha hb =
    let f : length xs ≡ length ys = omega arith in
    let m : ℕ = word_bits * length ys in
    let r : ℕ = number_in xs in
    let s : ℕ = number_in ys in
    let hs : s < 2 ^ m = number_below ys (λ i. hb (suc i)) in
    let hr : r < 2 ^ m = rw f at (number_below xs (λ i. ha (suc i))) in
    ap₂ (λ (n c : ℕ). bit_and a b * 2 ^ (word_bits * n) + c) (and_length xs ys f) (and_number xs ys f (λ i. ha (suc i)) (λ i. hb (suc i)))
    ∙ sym (and_block m a b r s hr hs)
    ∙ ap (λ (n : ℕ). bit_and (a * 2 ^ (word_bits * n) + r) (b * 2 ^ m + s)) (sym f)

pub and_words_is : (xs ys : List ℕ) → length xs ≡ length ys → AreWords xs → AreWords ys → AreWords (and_words xs ys)
and_words_is xs ys e ha hb i = rw (and_word xs ys e i) (and_lt word_bits (get_or xs i 0) (get_or ys i 0) (ha i) (hb i))

-- a word covers another, and so the words of a signature those of a query: what is common to both is the query
abbrev pub covers_word : ℕ → ℕ → Bool
covers_word a b = eqb (bit_and a b) b

each_common : (xs ys : List ℕ) → each_word eqb (and_words xs ys) ys ≡ each_word covers_word xs ys
unfolding and_words each_word
each_common [] ys = refl
each_common (a ∷ xs) [] = refl
each_common (a ∷ xs) (b ∷ ys) = ap (λ (t : Bool). covers_word a b && t) (each_common xs ys)

pub each_covers : (xs ys : List ℕ) → length xs ≡ length ys → AreWords xs → AreWords ys → eqb (bit_and (number_in xs) (number_in ys)) (number_in ys) ≡ each_word covers_word xs ys
each_covers xs ys e ha hb =
    ap (λ (n : ℕ). eqb n (number_in ys)) (sym (and_number xs ys e ha hb))
    ∙ each_same (and_words xs ys) ys (and_length xs ys e) (and_words_is xs ys e ha hb) hb
    ∙ each_common xs ys

-- a word that is 0 is covered by every word
pub zero_covered : (a b : ℕ) → b ≡ 0 → covers_word a b ≡ true
zero_covered a b e = eq-eqb (bit_and a b) b (ap (bit_and a) e ∙ and_zero_r a ∙ sym e)

-- ---- no position set: the words are all 0

zero_words : (n : ℕ) → AreWords (replicate n 0)
zero_words zero i = pow_pos word_bits
zero_words (suc n) zero = pow_pos word_bits
zero_words (suc n) (suc i) = zero_words n i

module _ (xs : List ℕ) where
  abbrev zeros : List ℕ
  zeros = replicate (length xs) 0

  even : length xs ≡ length zeros
  even = sym (length-replicate (length xs) 0)

  abbrev pub Zeros : ℕ → Type 0
  Zeros i = From eqb xs (replicate (length xs) 0) i

  zero_at : (i : ℕ) → i < length xs → get_or zeros i 0 ≡ 0
  zero_at i h = get_or-replicate (length xs) i 0 0 h

  number : AreWords xs → eqb (number_in xs) 0 ≡ each_word eqb xs zeros
  number h = ap (eqb (number_in xs)) (sym (number_zeros (length xs))) ∙ each_same xs zeros even h (zero_words (length xs))

  pub zeros_yes : (i : ℕ) → i < length xs → Zeros i → get_or xs i 0 ≡ 0 → Zeros (suc i)
  zeros_yes i h f e = each_yes eqb xs zeros even i (omega (arith, even)) f (eq-eqb _ _ (e ∙ sym (zero_at i h)))

  pub zeros_no : (i : ℕ) → i < length xs → Zeros i → get_or xs i 0 ≢ 0 → AreWords xs → false ≡ eqb (number_in xs) 0
  zeros_no i h f n w = sym (number w ∙ each_no eqb xs zeros even i (omega (arith, even)) f (ne_eqb _ _ (λ e. n (e ∙ zero_at i h))))

  pub zeros_end : (i : ℕ) → length xs ≤ i → Zeros i → AreWords xs → true ≡ eqb (number_in xs) 0
  zeros_end i h f w = sym (number w ∙ each_end eqb xs zeros even i (omega (arith, even)) f)

-- ---- a signature agrees with edges under a mask

module _ (xs ms es : List ℕ) (long : length xs ≡ length es) (wide : length ms ≡ length es) where
  alike : length xs ≡ length ms
  alike = long ∙ sym wide

  masked : length (and_words xs ms) ≡ length es
  masked = and_length xs ms alike ∙ wide

  abbrev pub Agreeing : ℕ → Type 0
  Agreeing i = From eqb (and_words xs ms) es i

  agreed : AreWords xs → AreWords ms → AreWords es → eqb (bit_and (number_in xs) (number_in ms)) (number_in es) ≡ each_word eqb (and_words xs ms) es
  agreed hx hm he =
      ap (λ (n : ℕ). eqb n (number_in es)) (sym (and_number xs ms alike hx hm)) ∙ each_same (and_words xs ms) es masked (and_words_is xs ms alike hx hm) he

  pub agree_yes : (i : ℕ) → i < length es → Agreeing i → bit_and (get_or xs i 0) (get_or ms i 0) ≡ get_or es i 0 → Agreeing (suc i)
  agree_yes i h f e = each_yes eqb (and_words xs ms) es masked i h f (eq-eqb _ _ (and_word xs ms alike i ∙ e))

  pub agree_no : (i : ℕ) → i < length es → Agreeing i → bit_and (get_or xs i 0) (get_or ms i 0) ≢ get_or es i 0 → AreWords xs → AreWords ms → AreWords es
      → false ≡ eqb (bit_and (number_in xs) (number_in ms)) (number_in es)
  agree_no i h f n hx hm he =
      sym (agreed hx hm he ∙ each_no eqb (and_words xs ms) es masked i h f (ne_eqb _ _ (λ e. n (sym (and_word xs ms alike i) ∙ e))))

  pub agree_end : (i : ℕ) → length es ≤ i → Agreeing i → AreWords xs → AreWords ms → AreWords es → true ≡ eqb (bit_and (number_in xs) (number_in ms)) (number_in es)
  agree_end i h f hx hm he = sym (agreed hx hm he ∙ each_end eqb (and_words xs ms) es masked i h f)

-- ---- positions

-- position P of a number in n words stands in word q at position d: F may leave the high word's first bits unused
pub position_in : (xs : List ℕ) → AreWords xs → (F P q d : ℕ) → 1 ≤ P → P ≤ F → F ≤ word_bits * length xs → word_bits * q + d ≡ word_bits * length xs - F + P → 1 ≤ d → d ≤ word_bits
    → bit_at F (number_in xs) P ≡ bit_at word_bits (get_or xs q 0) d
position_in xs h F P q d lo hi fit e d1 d2 =
    let k : ℕ = F - P in
    let i : length xs - 1 - k / word_bits ≡ q = omega arith in
    let j : k % word_bits ≡ word_bits - d = omega arith in
    word_bit xs h k (omega arith) ∙ ap₂ (λ (a b : ℕ). get_or xs a 0 / 2 ^ b % 2) i j

-- ---- setting a bit

-- setting bit k % 64 of word k / 64 from the low end sets bit k of the number
pub set_bit : (ws : List ℕ) → AreWords ws → (k : ℕ) → k < word_bits * length ws
    → number_in (set ws (length ws - 1 - k / word_bits) (bit_or (get_or ws (length ws - 1 - k / word_bits) 0) (2 ^ (k % word_bits)))) ≡ bit_or (number_in ws) (2 ^ k)
unfolding number_in
set_bit [] h k l = absurd (omega arith)
set_bit (w ∷ ws) h k l = go (set_bit ws (λ i. h (suc i)) k) (dec_lt k (word_bits * length ws))
  where
    at : ℕ
    at = length ws - 1 - k / word_bits

    v : ℕ
    v = bit_or (get_or ws at 0) (2 ^ (k % word_bits))

    below : number_in ws < 2 ^ (word_bits * length ws)
    below = number_below ws (λ i. h (suc i))

    go : (k < word_bits * length ws → number_in (set ws at v) ≡ bit_or (number_in ws) (2 ^ k)) → Dec (k < word_bits * length ws)
        → number_in (set (w ∷ ws) (length (w ∷ ws) - 1 - k / word_bits) (bit_or (get_or (w ∷ ws) (length (w ∷ ws) - 1 - k / word_bits) 0) (2 ^ (k % word_bits)))) ≡ bit_or (w * 2 ^ (word_bits * length ws) + number_in ws) (2 ^ k)
    go rest (yes y) =
        let e : length (w ∷ ws) - 1 - k / word_bits ≡ suc at = omega arith in
        ap (λ (i : ℕ). number_in (set (w ∷ ws) i (bit_or (get_or (w ∷ ws) i 0) (2 ^ (k % word_bits))))) e
        ∙ ap₂ (λ (n c : ℕ). w * 2 ^ (word_bits * n) + c) (length-set ws at v) (rest y)
        ∙ sym (join y)
      where
        join : k < word_bits * length ws → bit_or (w * 2 ^ (word_bits * length ws) + number_in ws) (2 ^ k) ≡ w * 2 ^ (word_bits * length ws) + bit_or (number_in ws) (2 ^ k)
        join y =
            let m : ℕ = word_bits * length ws in
            let z : 2 ^ k ≡ 0 * 2 ^ m + 2 ^ k = omega (arith, zero-mul (2 ^ m)) in
            ap (bit_or (w * 2 ^ m + number_in ws)) z ∙ or_block m w 0 (number_in ws) (2 ^ k) below (pow-lt y) ∙ ap (λ (x : ℕ). x * 2 ^ m + bit_or (number_in ws) (2 ^ k)) (or_zero_r w)
    go rest (no n) =
        let e : length (w ∷ ws) - 1 - k / word_bits ≡ 0 = omega arith in
        ap (λ (i : ℕ). number_in (set (w ∷ ws) i (bit_or (get_or (w ∷ ws) i 0) (2 ^ (k % word_bits))))) e ∙ sym join
      where
        join : bit_or (w * 2 ^ (word_bits * length ws) + number_in ws) (2 ^ k) ≡ bit_or w (2 ^ (k % word_bits)) * 2 ^ (word_bits * length ws) + number_in ws
        join =
            let m : ℕ = word_bits * length ws in
            let f : k ≡ k % word_bits + m = omega arith in
            let z : 2 ^ k ≡ 2 ^ (k % word_bits) * 2 ^ m + 0 = ap (λ (i : ℕ). 2 ^ i) f ∙ pow-add 2 (k % word_bits) m ∙ omega arith in
            ap (bit_or (w * 2 ^ m + number_in ws)) z
            ∙ or_block m w (2 ^ (k % word_bits)) (number_in ws) 0 below (pow_pos m)
            ∙ ap (λ (x : ℕ). bit_or w (2 ^ (k % word_bits)) * 2 ^ m + x) (or_zero_r (number_in ws))
