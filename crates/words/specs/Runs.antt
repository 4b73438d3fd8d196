-- What the longest runs of a text are, without saying how to find them.
-- Assumes nothing.
use Rattle.std.specs.Prelude.{◌≡◌, ◌⊎◌, ◌↔◌, true, false, ℕ, suc, ◌+◌, ◌-◌, ◌≤◌, ◌<◌, length, get_or}
use mathlib.Core.List.{List, [], ◌∷◌, Memᴰ}
use Rattle.model.specs.Words.{Part, separator}

-- byte i is a byte of the text and no separator
pub record Inner (text : List ℕ) (i : ℕ) : Type 0 where
  pub inside : i < length text
  pub other : separator (get_or text i 0) ≡ false

-- p is a longest run of bytes other than separators
pub record LongestRun (text : List ℕ) (p : Part) : Type 0 where
  pub some : 1 ≤ p.size
  pub inside : p.start + p.size ≤ length text
  pub bytes : (i : ℕ) → p.start ≤ i → i < p.start + p.size → separator (get_or text i 0) ≡ false
  pub before : 1 ≤ p.start → separator (get_or text (p.start - 1) 0) ≡ true
  pub after : p.start + p.size < length text → separator (get_or text (p.start + p.size) 0) ≡ true

-- some part holds byte i
abbrev pub Held : ℕ → List Part → Type 0
Held i [] = ⊥
Held i (p ∷ ps) = ((p.start ≤ i) × (i < p.start + p.size)) ⊎ Held i ps

-- the parts ascend from byte n on, with a byte or more between them
abbrev pub Apart : ℕ → List Part → Type 0
Apart n [] = Unit
Apart n (p ∷ ps) = (n ≤ p.start) × Apart (suc (p.start + p.size)) ps

-- these parts are exactly the longest runs, ascending and disjoint, and together all bytes other than separators
pub record AreRuns (text : List ℕ) (ps : List Part) : Type 0 where
  pub runs : (p : Part) → Memᴰ p ps ↔ LongestRun text p
  pub bytes : (i : ℕ) → Held i ps ↔ Inner text i
  pub apart : Apart 0 ps
