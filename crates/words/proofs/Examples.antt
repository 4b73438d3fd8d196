-- Worked examples, computed: document 01's triplets, equal positions, short words, and the words of a text.
-- Assumes nothing.
use mathlib.Core.Path.{◌≡◌, refl}
use mathlib.Core.List.{[], ◌∷◌}
use Prim.Native.Nat.{◌^◌}
use Rattle.model.specs.Basics.{keep}
use Rattle.model.specs.Wide.{words_for}
use Rattle.model.specs.Words.{separator, ended, scan, parts_of, nth, word_at, bytes_over, words_of, triplet_position, triplets_from, triplets, different, positions_of, set_all, word_signature, or_over, text_signature}

-- "pro" gives 2, "rof" 10
example_positions : (triplet_position 12 112 114 111 ≡ 2) × (triplet_position 12 114 111 102 ≡ 10)
unfolding triplet_position
example_positions = (refl, refl)

-- "prof" sets both, and with K 1 the first
example_prof : (positions_of 12 8 (112 ∷ 114 ∷ 111 ∷ 102 ∷ []) ≡ 2 ∷ 10 ∷ [])
    × (word_signature 12 8 (112 ∷ 114 ∷ 111 ∷ 102 ∷ []) ≡ 0b010000000100)
    × (word_signature 12 1 (112 ∷ 114 ∷ 111 ∷ 102 ∷ []) ≡ 0b010000000000)
unfolding triplet_position triplets_from triplets keep different set_all positions_of word_signature
example_prof = (refl, refl, refl)

-- "aaaab" has the positions 10, 10, 11: K counts different positions only
example_equal : (triplets 12 (97 ∷ 97 ∷ 97 ∷ 97 ∷ 98 ∷ []) ≡ 10 ∷ 10 ∷ 11 ∷ [])
    × (positions_of 12 2 (97 ∷ 97 ∷ 97 ∷ 97 ∷ 98 ∷ []) ≡ 10 ∷ 11 ∷ []) × (positions_of 12 1 (97 ∷ 97 ∷ 97 ∷ 97 ∷ 98 ∷ []) ≡ 10 ∷ [])
unfolding triplet_position triplets_from triplets keep different positions_of
example_equal = (refl, refl, refl)

-- "of" is a word under three bytes and sets none; "of prof\nof" has the signature of "prof"
example_text : (word_signature 12 8 (111 ∷ 102 ∷ []) ≡ 0)
    × (text_signature 12 8 (111 ∷ 102 ∷ 32 ∷ 112 ∷ 114 ∷ 111 ∷ 102 ∷ 10 ∷ 111 ∷ 102 ∷ []) ≡ 0b010000000100)
unfolding triplet_position triplets_from triplets keep different set_all positions_of word_signature bytes_over words_of or_over text_signature parts_of scan ended separator
example_text = (refl, refl)

-- at width 512 "prof" has the positions 174 and 458, in the third and the last of eight words
example_wide : (positions_of 512 8 (112 ∷ 114 ∷ 111 ∷ 102 ∷ []) ≡ 174 ∷ 458 ∷ [])
    × (words_for 8 (word_signature 512 8 (112 ∷ 114 ∷ 111 ∷ 102 ∷ [])) ≡ 0 ∷ 0 ∷ 2 ^ 18 ∷ 0 ∷ 0 ∷ 0 ∷ 0 ∷ 2 ^ 54 ∷ [])
unfolding triplet_position triplets_from triplets keep different set_all positions_of word_signature words_for
example_wide = (refl, refl)

-- " a\nbc" has "a" at 1 and "bc" at 3, and no third word
example_words : (word_at (32 ∷ 97 ∷ 10 ∷ 98 ∷ 99 ∷ []) 1 ≡ record { start = 1; size = 1 })
    × (word_at (32 ∷ 97 ∷ 10 ∷ 98 ∷ 99 ∷ []) 2 ≡ record { start = 3; size = 2 })
    × (word_at (32 ∷ 97 ∷ 10 ∷ 98 ∷ 99 ∷ []) 3 ≡ record { start = 5; size = 0 })
unfolding word_at parts_of nth scan ended separator
example_words = (refl, refl, refl)
