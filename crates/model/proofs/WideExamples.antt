-- Ticket 9 by computation: how many words a width has, a number and its words, where a block's words stand, and how a slip is read at a
-- width of one word, at a width of two and on tables that do not fit.
-- Assumes nothing.
use Prim.Native.Nat.{ℕ, ◌+◌, ◌^◌}
use mathlib.Core.Bool.{true, false}
use mathlib.Core.Path.{◌≡◌, refl}
use mathlib.Core.List.{List, [], ◌∷◌, ◌++◌}
use lib.ListN.{replicate}
use Rattle.model.specs.Signature.{bit_at, coversb, difference_from, first_difference}
use Rattle.model.specs.Wide.{word_count, number_in, words_for, signatures_in, set_words}
use Rattle.model.specs.Questions.{Asked, clear, file, search, refused, carries, number_at, words_at, ask_slip, ask_kind, read_kind, read_slip}
use Rattle.model.specs.Lists.{another, slice_after}

-- W is F / 64 rounded up
one_word : word_count 64 ≡ 1
one_word = refl

one_bit_more : word_count 65 ≡ 2
one_bit_more = refl

two_full : word_count 128 ≡ 2
two_full = refl

third_begun : word_count 129 ≡ 3
third_begun = refl

widest_words : word_count 512 ≡ 8
widest_words = refl

-- the high word comes first, and back
high_first : number_in (1 ∷ 2 ∷ []) ≡ 2 ^ 64 + 2
unfolding number_in
high_first = refl

back : words_for 2 (2 ^ 64 + 2) ≡ 1 ∷ 2 ∷ []
unfolding words_for
back = refl

-- at width 70 the high word has positions 1 to 6, the low word the others
sixth : bit_at 70 (number_in (1 ∷ 0 ∷ [])) 6 ≡ 1
unfolding number_in
sixth = refl

seventh : bit_at 70 (number_in (0 ∷ 2 ^ 63 ∷ [])) 7 ≡ 1
unfolding number_in
seventh = refl

-- the first difference is told by the first words that differ
in_the_low_word : first_difference 70 (number_in (5 ∷ 1 ∷ [])) (number_in (5 ∷ 0 ∷ [])) ≡ 70
unfolding number_in difference_from
in_the_low_word = refl

in_the_high_word : first_difference 70 (number_in (4 ∷ 1 ∷ [])) (number_in (5 ∷ 0 ∷ [])) ≡ 6
unfolding number_in difference_from
in_the_high_word = refl

-- the low word counts as much as the high one
low_word_counts : coversb 70 (number_in (5 ∷ 1 ∷ [])) (number_in (5 ∷ 2 ∷ [])) ≡ false
unfolding number_in coversb
low_word_counts = refl

-- block b's words stand at (b - 1) W to b W - 1
three_blocks : signatures_in 2 3 (0 ∷ 1 ∷ 0 ∷ 2 ∷ 1 ∷ 3 ∷ []) ≡ 1 ∷ 2 ∷ (2 ^ 64 + 3) ∷ []
unfolding signatures_in number_in
three_blocks = refl

second_set : set_words 2 (0 ∷ 1 ∷ 0 ∷ 2 ∷ 1 ∷ 3 ∷ []) 2 (7 ∷ 8 ∷ []) ≡ 0 ∷ 1 ∷ 7 ∷ 8 ∷ 1 ∷ 3 ∷ []
second_set = refl

-- what tables of four blocks say at a width, lent so many words
unfoldable asked : ℕ → ℕ → Asked
asked F lent = record { lengths = true; lent = lent; words = true; width = F; blocks = 4; filed = λ b. false }

-- a slip of this kind, block and 8 W bytes
unfoldable bytes : ℕ → ℕ → List ℕ → List ℕ
bytes kind block field = (kind ∷ 0 ∷ 0 ∷ 0 ∷ 0 ∷ 0 ∷ 0 ∷ block ∷ []) ++ field

-- the field that holds the words high and low, of one byte each
unfoldable field : ℕ → ℕ → List ℕ
field high low = replicate 7 0 ++ (high ∷ replicate 7 0) ++ (low ∷ [])

record Read : Type 0 where
  -- a filing at width 70: 24 bytes, the high word first
  filing : read_slip (asked 70 8) (bytes 1 3 (field 5 9)) ≡ carries (file 3 (5 ∷ 9 ∷ []))
  -- a search at width 64: 16 bytes
  searching : read_slip (asked 64 4) (bytes 4 0 (replicate 7 0 ++ (9 ∷ []))) ≡ carries (search (9 ∷ []))
  -- the old length after a clear to another width
  too_short : read_slip (asked 70 8) (bytes 1 3 (replicate 7 0 ++ (9 ∷ []))) ≡ refused 1
  too_long : read_slip (asked 64 4) (bytes 1 3 (field 5 9)) ≡ refused 1
  -- a clear has 16 bytes at every width, its own included
  clearing : read_slip (asked 64 4) (bytes 0 70 (replicate 8 0)) ≡ carries (clear 70)
  clear_too_long : read_slip (asked 70 8) (bytes 0 70 (replicate 16 0)) ≡ refused 1
  -- an empty slip gets 1, then 2 comes first, then 4, then 1, then 3
  empty : read_slip (asked 70 7) [] ≡ refused 1
  unknown : read_slip (asked 70 7) (5 ∷ []) ≡ refused 2
  unfit : read_slip (asked 70 7) (1 ∷ []) ≡ refused 4
  unfit_clear : read_slip (asked 70 7) (0 ∷ []) ≡ refused 1
  long_first : read_slip (asked 70 8) (2 ∷ 1 ∷ []) ≡ refused 1
  unused : read_slip (asked 70 8) (bytes 2 3 (field 0 1)) ≡ refused 3
  unfit_long : read_slip (asked 70 7) (bytes 2 3 (field 0 1)) ≡ refused 4

read : Read
unfolding asked bytes field number_at words_at ask_slip ask_kind read_kind read_slip
read = record {
  filing = refl;
  searching = refl;
  too_short = refl;
  too_long = refl;
  clearing = refl;
  clear_too_long = refl;
  empty = refl;
  unknown = refl;
  unfit = refl;
  unfit_clear = refl;
  long_first = refl;
  unused = refl;
  unfit_long = refl;
}

-- a clear that is refused leaves the index its own slice; one that is carried out, the slice that it was lent
stays : slice_after (1 ∷ []) (another (2 ∷ [])) 4 (2 ∷ []) ≡ 1 ∷ []
stays = refl

goes : slice_after (1 ∷ []) (another (2 ∷ [])) 0 (0 ∷ []) ≡ 0 ∷ []
goes = refl
