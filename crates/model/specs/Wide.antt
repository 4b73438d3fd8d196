-- A signature in words (Ticket 9): a number below 2 ^ F is lent and stored as W words, high word first. Every other definition speaks
-- of the number; this file is the one place that goes from words to numbers and back, for every F.
-- Assumes nothing.
use Rattle.std.specs.Prelude.{ℕ, zero, suc, ◌+◌, ◌-◌, ◌*◌, ◌/◌, ◌%◌, ◌^◌, ◌<◌, List, [], ◌∷◌, ◌++◌, length, get_or, take, drop}
use Rattle.model.specs.Limits.{word_bits}

-- W, the words of a width: F / 64 rounded up
abbrev pub word_count : ℕ → ℕ
word_count F = (F + (word_bits - 1)) / word_bits

-- these numbers are words: below 2 ^ 64
abbrev pub AreWords : List ℕ → Type 0
AreWords ws = (i : ℕ) → get_or ws i 0 < 2 ^ word_bits

-- the number in these words
unfoldable pub number_in : List ℕ → ℕ
number_in [] = 0
number_in (w ∷ ws) = w * 2 ^ (word_bits * length ws) + number_in ws

-- the index, in n words, of the word that holds the bit of weight 2 ^ k
abbrev pub word_of : ℕ → ℕ → ℕ
word_of n k = n - 1 - k / word_bits

-- the n words of a number
unfoldable pub words_for : ℕ → ℕ → List ℕ
words_for zero s = []
words_for (suc n) s = s / 2 ^ (word_bits * n) ∷ words_for n (s % 2 ^ (word_bits * n))

-- the n signatures in a slice of W words to a signature: block b's words stand at (b - 1) * W to b * W - 1
unfoldable pub signatures_in : ℕ → ℕ → List ℕ → List ℕ
signatures_in W zero ws = []
signatures_in W (suc n) ws = number_in (take W ws) ∷ signatures_in W n (drop W ws)

-- block b's words in it
abbrev pub words_of_block : ℕ → List ℕ → ℕ → List ℕ
words_of_block W words b = take W (drop ((b - 1) * W) words)

-- the slice with block b's words set to these W
abbrev pub set_words : ℕ → List ℕ → ℕ → List ℕ → List ℕ
set_words W words b s = take ((b - 1) * W) words ++ s ++ drop ((b - 1) * W + W) words
