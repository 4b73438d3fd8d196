-- The cover theorem: the OR over the block's words covers each of them, so it covers the OR over the query's where those are among
-- them. And what a word sets: positions 1 to F, at most K, exactly those; so a text's signature is one of width F.
-- Assumes nothing.
use mathlib.Core.Path.{◌≡◌, refl, sym, ap, ◌∙◌, subst}
use mathlib.Core.List.Memᴰ
use mathlib.Core.List.{List, [], ◌∷◌, Memᴰ}
use mathlib.Core.Logic.{◌⊎◌, inl, inr}
use Prim.Native.Nat.{ℕ, ◌*◌, ◌^◌, ◌≤◌, ◌<◌, min}
use native.Mathlib.Nat.{lt_of_lt_of_le}
use native.Mathlib.Decide.{dec_lt, ℕ_discrete}
use native.Mathlib.Omega.{arith}
use lib.Bits.{bit_or, or_lt}
use lib.Pow.{pow_pos, pow_mono}
use lib.ListN.{length, length-take}
use Rattle.model.specs.Signature.{bit_at, Covers}
use Rattle.model.specs.Limits.{word_bits}
use Rattle.model.specs.Wide.{word_count, number_in}
use Rattle.model.proofs.Wide.{words_length, number_words}
use Rattle.model.specs.Words.{words_of, triplets_from, triplets, different, positions_of, word_signature, or_over, text_signature, sign_refusal, SignPromise}
use Rattle.signature.proofs.Covering.{covers_zero, covers_trans, covers_left, covers_right, covers_or}
use Rattle.words.specs.Pass.{Inside}
use Rattle.words.proofs.Triplets.{position_inside}
use Rattle.words.proofs.Asked.{no_width}
use Rattle.words.proofs.Different.{times}
use Rattle.words.proofs.Setting.{inside_different, inside_take, set_bit, set_below}

-- each word's signature is covered by the OR over the words
word_covered : (F K : ℕ) (w : List ℕ) (ws : List (List ℕ)) → Memᴰ w ws → Covers F (or_over F K ws) (word_signature F K w)
unfolding or_over
word_covered F K w [] m = absurd (Memᴰ.not-nil m)
word_covered F K w (v ∷ ws) m = go (Memᴰ.cases_cons m) (word_covered F K w ws)
  where
    go : (w ≡ v) ⊎ Memᴰ w ws → (Memᴰ w ws → Covers F (or_over F K ws) (word_signature F K w))
        → Covers F (bit_or (word_signature F K v) (or_over F K ws)) (word_signature F K w)
    go (inl e) ih =
        subst (λ (u : List ℕ). Covers F (bit_or (word_signature F K v) (or_over F K ws)) (word_signature F K u)) (sym e)
        (covers_left F (word_signature F K v) (or_over F K ws))
    go (inr h) ih =
        covers_trans F (bit_or (word_signature F K v) (or_over F K ws)) (or_over F K ws) (word_signature F K w)
        (covers_right F (word_signature F K v) (or_over F K ws)) (ih h)

words_covered : (F K : ℕ) (qs bs : List (List ℕ)) → ((w : List ℕ) → Memᴰ w qs → Memᴰ w bs) → Covers F (or_over F K bs) (or_over F K qs)
unfolding or_over
words_covered F K [] bs h = covers_zero F (or_over F K bs)
words_covered F K (q ∷ qs) bs h =
    covers_or F (or_over F K bs) (word_signature F K q) (or_over F K qs) (word_covered F K q bs (h q (Memᴰ.head refl)))
    (words_covered F K qs bs (λ w m. h w (Memᴰ.tail m)))

-- if all words of a query text are words of a block text, signed with the same F and K, the block's signature covers the query's
pub cover : (F K : ℕ) (query block : List ℕ) → ((w : List ℕ) → Memᴰ w (words_of query) → Memᴰ w (words_of block))
    → Covers F (text_signature F K block) (text_signature F K query)
unfolding text_signature
cover F K query block h = words_covered F K (words_of query) (words_of block) h

-- ---- what a word sets

inside_from : (F a b : ℕ) (l : List ℕ) → 1 ≤ F → Inside F (triplets_from F a b l)
unfolding triplets_from
inside_from F a b [] h = tt
inside_from F a b (c ∷ l) h = ((position_inside F a b c h).0, (position_inside F a b c h).1, inside_from F b c l h)

pub inside_triplets : (F : ℕ) (w : List ℕ) → 1 ≤ F → Inside F (triplets F w)
unfolding triplets
inside_triplets F [] h = tt
inside_triplets F (a ∷ []) h = tt
inside_triplets F (a ∷ b ∷ l) h = inside_from F a b l h

-- a word's positions are 1 to F
pub positions_inside : (F K : ℕ) (w : List ℕ) → 1 ≤ F → Inside F (positions_of F K w)
unfolding positions_of
positions_inside F K w h = inside_take F K (different (triplets F w)) (inside_different F (triplets F w) (inside_triplets F w h))

-- at most K of them
pub positions_few : (F K : ℕ) (w : List ℕ) → length (positions_of F K w) ≤ K
unfolding positions_of
positions_few F K w = omega (arith, length-take K (different (triplets F w)))

-- exactly they are set in the word's signature
pub word_bit : (F K : ℕ) (w : List ℕ) (j : ℕ) → 1 ≤ F → j ≤ F → bit_at F (word_signature F K w) j ≡ min 1 (times j (positions_of F K w))
unfolding word_signature
word_bit F K w j h q = set_bit F (positions_of F K w) j (positions_inside F K w h) q

-- a word's signature is below 2 ^ F
pub word_below : (F K : ℕ) (w : List ℕ) → 1 ≤ F → word_signature F K w < 2 ^ F
unfolding word_signature
word_below F K w h = set_below F (positions_of F K w) (positions_inside F K w h)

words_below : (F K : ℕ) (ws : List (List ℕ)) → 1 ≤ F → or_over F K ws < 2 ^ F
unfolding or_over
words_below F K [] h = pow_pos F
words_below F K (w ∷ ws) h = or_lt F (word_signature F K w) (or_over F K ws) (word_below F K w h) (words_below F K ws h)

-- the signature of a text is below 2 ^ F
pub signature_below : (F K : ℕ) (text : List ℕ) → 1 ≤ F → text_signature F K text < 2 ^ F
unfolding text_signature
signature_below F K text h = words_below F K (words_of text) h

-- ---- what the signer gives where it answers 0

module _ (F K : ℕ) (text lent words : List ℕ) (p : SignPromise F K text lent 0 words) where
  passed : sign_refusal F K (length lent) text ≡ 0
  passed = go (ℕ_discrete (sign_refusal F K (length lent) text) 0)
    where
      go : Dec (sign_refusal F K (length lent) text ≡ 0) → sign_refusal F K (length lent) text ≡ 0
      go (yes e) = e
      go (no n) = absurd (n (sym (p.refused n).0))

  some_width : 1 ≤ F
  some_width = go (dec_lt F 1)
    where
      go : Dec (F < 1) → 1 ≤ F
      go (yes l) = absurd (omega (arith, no_width F K (length lent) text l, passed))
      go (no g) = omega arith

  -- W words
  pub sign_long : length words ≡ word_count F
  sign_long = ap length (p.done passed).1 ∙ words_length (word_count F) (text_signature F K text)

  -- in which the text's signature stands
  pub signed : number_in words ≡ text_signature F K text
  signed =
      let w : F ≤ word_bits * word_count F = omega arith in
      ap number_in (p.done passed).1
      ∙ number_words (word_count F) (text_signature F K text) (lt_of_lt_of_le (signature_below F K text some_width) (pow_mono w))

  -- which is one of the width
  pub sign_fits : number_in words < 2 ^ F
  sign_fits = subst (λ (n : ℕ). n < 2 ^ F) (sym signed) (signature_below F K text some_width)

-- the cover theorem of two calls of the signer with one width and one K
pub sign_covers : (F K : ℕ) (query block lq lb q b : List ℕ) → SignPromise F K query lq 0 q → SignPromise F K block lb 0 b
    → ((w : List ℕ) → Memᴰ w (words_of query) → Memᴰ w (words_of block))
    → Covers F (number_in b) (number_in q)
sign_covers F K query block lq lb q b x y h =
    subst (λ (n : ℕ). Covers F n (number_in q)) (sym (signed F K block lb b y))
    (subst (λ (n : ℕ). Covers F (text_signature F K block) n) (sym (signed F K query lq q x)) (cover F K query block h))
