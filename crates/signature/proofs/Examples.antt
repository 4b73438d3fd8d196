-- The definitions of signatures compute, at widths 4, 12, 64, 70 and 512: each line is a number written out.
-- Assumes nothing.
use mathlib.Core.Path.{◌≡◌, refl}
use mathlib.Core.Bool.{true, false}
use mathlib.Core.List.{[], ◌∷◌}
use Prim.Native.Nat.{◌+◌, ◌-◌, ◌^◌}
use lib.ListN.{length}
use Rattle.model.specs.Basics.{up_from, keep}
use Rattle.model.specs.Signature.{bit_at, coversb, difference_from, first_difference, zero_bits}
use Rattle.model.specs.Wide.{word_count, word_of, number_in, words_for}

bits : (bit_at 4 0b1011 1 ≡ 1) × (bit_at 4 0b1011 2 ≡ 0) × (bit_at 12 0b010000000100 2 ≡ 1) × (bit_at 64 (2 ^ 63) 1 ≡ 1)
    × (bit_at 64 (2 ^ 63) 64 ≡ 0) × (bit_at 512 (2 ^ 500) 12 ≡ 1)
bits = (refl, refl, refl, refl, refl, refl)

covered : (coversb 4 0b1110 0b0110 ≡ true) × (coversb 4 0b1011 0b0110 ≡ false) × (coversb 12 0b010000000100 0b000000000100 ≡ true)
unfolding coversb
covered = (refl, refl, refl)

covered_wide : (coversb 64 (2 ^ 64 - 1) (2 ^ 63 + 5) ≡ true) × (coversb 64 (2 ^ 64 - 2) (2 ^ 63 + 5) ≡ false)
    × (coversb 512 (2 ^ 512 - 1) (2 ^ 511 + 1) ≡ true)
unfolding coversb
covered_wide = (refl, refl, refl)

differences : (first_difference 4 0b1011 0b0110 ≡ 1) × (first_difference 4 0b1110 0b1111 ≡ 4)
    × (first_difference 64 (2 ^ 64 - 1) (2 ^ 64 - 2) ≡ 64) × (first_difference 512 0 1 ≡ 512)
unfolding difference_from
differences = (refl, refl, refl, refl)

zeros : (zero_bits 4 0b0010 ≡ 1 ∷ 2 ∷ 4 ∷ []) × (zero_bits 12 0b111111111110 ≡ 12 ∷ []) × (length (zero_bits 64 (2 ^ 63)) ≡ 63)
    × (length (zero_bits 512 0) ≡ 512)
unfolding keep up_from
zeros = (refl, refl, refl, refl)

-- ---- two words: of 70 positions the high word has the first six, in its low bits

counted : (word_count 64 ≡ 1) × (word_count 65 ≡ 2) × (word_count 70 ≡ 2) × (word_count 512 ≡ 8)
counted = (refl, refl, refl, refl)

worded : (number_in (0b100001 ∷ (2 ^ 63 + 1) ∷ []) ≡ 2 ^ 69 + 2 ^ 64 + 2 ^ 63 + 1)
    × (words_for 2 (2 ^ 69 + 2 ^ 64 + 2 ^ 63 + 1) ≡ 0b100001 ∷ (2 ^ 63 + 1) ∷ [])
unfolding number_in words_for
worded = (refl, refl)

placed : (word_of 2 (70 - 1) ≡ 0) × (word_of 2 (70 - 6) ≡ 0) × (word_of 2 (70 - 7) ≡ 1) × (word_of 2 (70 - 70) ≡ 1)
placed = (refl, refl, refl, refl)

bits_of_words : (bit_at 70 (number_in (0b100001 ∷ 2 ^ 63 ∷ [])) 1 ≡ 1) × (bit_at 70 (number_in (0b100001 ∷ 2 ^ 63 ∷ [])) 2 ≡ 0)
    × (bit_at 70 (number_in (0b100001 ∷ 2 ^ 63 ∷ [])) 6 ≡ 1) × (bit_at 70 (number_in (0b100001 ∷ 2 ^ 63 ∷ [])) 7 ≡ 1)
    × (bit_at 70 (number_in (0b100001 ∷ 2 ^ 63 ∷ [])) 8 ≡ 0) × (bit_at 70 (number_in (0b100001 ∷ 2 ^ 63 ∷ [])) 70 ≡ 0)
unfolding number_in
bits_of_words = (refl, refl, refl, refl, refl, refl)

-- the first difference on either side of the words' border, whatever the low words are
words_differ : (first_difference 70 (number_in (0b100000 ∷ 7 ∷ [])) (number_in (0b100001 ∷ 5 ∷ [])) ≡ 6)
    × (first_difference 70 (number_in (0b100001 ∷ 0 ∷ [])) (number_in (0b100001 ∷ 2 ^ 63 ∷ [])) ≡ 7)
    × (first_difference 70 (number_in (0b100001 ∷ 4 ∷ [])) (number_in (0b100001 ∷ 5 ∷ [])) ≡ 70)
unfolding number_in difference_from
words_differ = (refl, refl, refl)
