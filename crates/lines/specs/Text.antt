-- The text of a line: numbers in decimal, single spaces between them, a line feed at the end.
-- Assumes nothing.
use Rattle.std.specs.Prelude.{ℕ, zero, suc, ◌+◌, ◌*◌, ◌/◌, ◌%◌, ◌≤◌, true, false, ◌≡◌, List, [], ◌∷◌, ◌++◌, ltb, length}
use Rattle.std.proofs.lemmas.List.Edits.{sets}

-- the ASCII digits of n in base ten, the most significant first; k bounds their number
unfoldable pub decimal_within : ℕ → ℕ → List ℕ
decimal_within zero n = []
decimal_within (suc k) n = elim (ltb n 10) [ true ↦ (48 + n) ∷ [] | false ↦ decimal_within k (n / 10) ++ ((48 + n % 10) ∷ []) ]

-- n has no more than n + 1 digits
abbrev pub decimal : ℕ → List ℕ
decimal n = decimal_within (suc n) n

-- a space before each number
unfoldable pub spaced : List ℕ → List ℕ
spaced [] = []
spaced (n ∷ ns) = 32 ∷ decimal n ++ spaced ns

-- the line of a number and those after it
abbrev pub line_text : ℕ → List ℕ → List ℕ
line_text n ns = decimal n ++ spaced ns ++ (10 ∷ [])

-- after its first `at` bytes the text has room for any line that lists these blocks: 48 bytes, and 11 for each block
abbrev pub HasRoom : List ℕ → ℕ → List ℕ → Type 0
HasRoom text at blocks = at + 48 + 11 * length blocks ≤ length text

-- The bytes were put from place `at` on, all of them, and `next` is the place after them.
pub record Puts (before : List ℕ) (at : ℕ) (bytes : List ℕ) (next : ℕ) (after : List ℕ) : Type 0 where
  pub place : next ≡ at + length bytes
  pub words : after ≡ sets before at bytes
  pub long : length after ≡ length before
