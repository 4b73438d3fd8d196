-- What the signer's pass knows of the word in which it stands.
-- Assumes nothing.
use Rattle.std.specs.Prelude.{◌≡◌, List, [], ◌∷◌, ℕ, ◌≤◌, length, take}
use Rattle.model.specs.Words.{different, set_all}

-- all listed positions are positions of the width
abbrev pub Inside : ℕ → List ℕ → Type 0
Inside F [] = Unit
Inside F (j ∷ l) = (1 ≤ j) × (j ≤ F) × Inside F l

-- a word whose triplets so far have the positions js sets these bits, and counts this many different positions
pub record Sets (F K : ℕ) (js : List ℕ) (bits count : ℕ) : Type 0 where
  pub inside : Inside F js
  pub signed : bits ≡ set_all F (take K (different js))
  pub counted : count ≡ length (take K (different js))
