-- Words (document 01, "Words"): the words of a text, the positions that they set, the text's signature for every width F and every
-- K, and what the splitter and the signer promise. A text is a list of byte numbers.
-- Assumes nothing.
use Rattle.std.specs.Prelude.{ℕ, zero, suc, ◌+◌, ◌*◌, ◌-◌, ◌%◌, ◌^◌, ◌≤◌, ◌≡◌, ◌≢◌, Bool, cond, not, ◌&&◌, ◌||◌, List, [], ◌∷◌, eqb, leb, length, take, drop}
use Rattle.std.specs.Int.Bits.{bit_or}
use Rattle.std.specs.Borrow.{Bor}
use Rattle.model.specs.Basics.{keep}
use Rattle.model.specs.Wide.{word_count, words_for}
use Rattle.model.specs.Questions.{width_fits, ask}

-- the longest text
abbrev pub longest_text : ℕ
longest_text = 4096

-- the largest K
abbrev pub most_positions : ℕ
most_positions = 8

-- ---- the words of a text, each as the part of the text that it occupies

-- size bytes of a text, from byte start on
pub record Part : Type 0 where
  pub start : ℕ
  pub size : ℕ

-- a byte at which a text is split: 32 or 10
unfoldable pub separator : ℕ → Bool
separator b = eqb b 32 || eqb b 10

-- a run of n bytes that starts at s has ended in front of some words: a run of no bytes is no word
unfoldable pub ended : ℕ → ℕ → List Part → List Part
ended s zero ps = ps
ended s (suc n) ps = record { start = s; size = suc n } ∷ ps

-- the words from a byte on: a run that starts at s has n bytes so far, and the list is ahead
unfoldable pub scan : ℕ → ℕ → List ℕ → List Part
scan s n [] = ended s n []
scan s n (b ∷ l) = cond (separator b) (ended s n (scan (suc (s + n)) 0 l)) (scan s (suc n) l)

-- the parts that the words of a text occupy, in order: the longest runs of other bytes
unfoldable pub parts_of : List ℕ → List Part
parts_of text = scan 0 0 text

-- the empty part at a text's end
abbrev pub end_of : List ℕ → Part
end_of text = record { start = length text; size = 0 }

-- the nth of some parts, counted from 1, or the given one where there is none
unfoldable pub nth : Part → ℕ → List Part → Part
nth none n [] = none
nth none zero (p ∷ ps) = none
nth none (suc zero) (p ∷ ps) = p
nth none (suc (suc n)) (p ∷ ps) = nth none (suc n) ps

-- word n of a text; where there is none, the empty part at its end
unfoldable pub word_at : List ℕ → ℕ → Part
word_at text n = nth (end_of text) n (parts_of text)

-- the bytes of a part
abbrev pub bytes_of : List ℕ → Part → List ℕ
bytes_of text p = take p.size (drop p.start text)

unfoldable pub bytes_over : List ℕ → List Part → List (List ℕ)
bytes_over text [] = []
bytes_over text (p ∷ ps) = bytes_of text p ∷ bytes_over text ps

-- the words of a text as bytes, in order
unfoldable pub words_of : List ℕ → List (List ℕ)
words_of text = bytes_over text (parts_of text)

-- ---- the positions that a word sets

-- the position of triplet a, b, c
unfoldable pub triplet_position : ℕ → ℕ → ℕ → ℕ → ℕ
triplet_position F a b c = 1 + (961 * a + 31 * b + c) % F

-- the positions of the triplets of a, b and the bytes after them, left to right
unfoldable pub triplets_from : ℕ → ℕ → ℕ → List ℕ → List ℕ
triplets_from F a b [] = []
triplets_from F a b (c ∷ l) = triplet_position F a b c ∷ triplets_from F b c l

-- the positions of a word's triplets: a word under three bytes has none
unfoldable pub triplets : ℕ → List ℕ → List ℕ
triplets F [] = []
triplets F (a ∷ []) = []
triplets F (a ∷ b ∷ l) = triplets_from F a b l

-- the entries other than j
abbrev pub others : ℕ → List ℕ → List ℕ
others j = keep (λ i. not (eqb i j))

-- the different entries of a list, each where it stands first
unfoldable pub different : List ℕ → List ℕ
different [] = []
different (j ∷ l) = j ∷ others j (different l)

-- a word sets its first K different positions, or all if it has fewer
unfoldable pub positions_of : ℕ → ℕ → List ℕ → List ℕ
positions_of F K word = take K (different (triplets F word))

-- ---- signatures

-- the signature in which the listed positions are set
unfoldable pub set_all : ℕ → List ℕ → ℕ
set_all F [] = 0
set_all F (j ∷ l) = bit_or (2 ^ (F - j)) (set_all F l)

unfoldable pub word_signature : ℕ → ℕ → List ℕ → ℕ
word_signature F K word = set_all F (positions_of F K word)

-- the OR over some words
unfoldable pub or_over : ℕ → ℕ → List (List ℕ) → ℕ
or_over F K [] = 0
or_over F K (word ∷ words) = bit_or (word_signature F K word) (or_over F K words)

-- a text's signature: the OR over its words
unfoldable pub text_signature : ℕ → ℕ → List ℕ → ℕ
text_signature F K text = or_over F K (words_of text)

-- ---- the questions

-- the splitter asks 12
unfoldable pub word_refusal : List ℕ → ℕ
word_refusal text = ask 12 (leb (length text) longest_text) 0

-- the signer asks 4 for F and for W lent words, n being lent, then 12 and 13
unfoldable pub sign_refusal : ℕ → ℕ → ℕ → List ℕ → ℕ
sign_refusal F K n text = ask 4 (width_fits F && eqb n (word_count F)) (ask 12 (leb (length text) longest_text) (ask 13 (leb 1 K && leb K most_positions) 0))

-- ---- the promises

-- r is the part p of the text t: inside it, with its bytes, at its place in the caller's memory
pub record IsPart (p : Part) (t r : Bor (List ℕ)) : Type 0 where
  pub inside : p.start + p.size ≤ length t.now
  pub bytes : r.now ≡ bytes_of t.now p
  pub block : r.ref_ptr.0 ≡ t.ref_ptr.0
  pub offset : r.ref_ptr.1 ≡ t.ref_ptr.1 + p.start

-- The splitter: refused or without word n, the empty part at the text's end, else word n.
pub record WordPromise (text : Bor (List ℕ)) (n answer : ℕ) (part : Bor (List ℕ)) : Type 0 where
  pub refused : word_refusal text.now ≢ 0 → (answer ≡ word_refusal text.now) × IsPart (end_of text.now) text part
  pub done : word_refusal text.now ≡ 0 → (answer ≡ 0) × IsPart (word_at text.now n) text part

-- The splitter as C can have it, which cannot be handed a part: the same part as two numbers.
pub record PlacePromise (text : List ℕ) (n answer start size : ℕ) : Type 0 where
  pub refused : word_refusal text ≢ 0 → (answer ≡ word_refusal text) × (record { start = start; size = size } ≡ end_of text)
  pub done : word_refusal text ≡ 0 → (answer ≡ 0) × (record { start = start; size = size } ≡ word_at text n)

-- The signer, lent some words: refused, they are untouched, else they are the words of the text's signature, high word first.
pub record SignPromise (F K : ℕ) (text lent : List ℕ) (answer : ℕ) (words : List ℕ) : Type 0 where
  pub refused : sign_refusal F K (length lent) text ≢ 0 → (answer ≡ sign_refusal F K (length lent) text) × (words ≡ lent)
  pub done : sign_refusal F K (length lent) text ≡ 0 → (answer ≡ 0) × (words ≡ words_for (word_count F) (text_signature F K text))
