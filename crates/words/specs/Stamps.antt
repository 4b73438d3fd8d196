-- Which bits a word has set, where it is kept for each bit which word set it last.
-- Assumes nothing.
use Rattle.std.specs.Prelude.{ℕ, ◌+◌, ◌*◌, List, [], ◌∷◌, cond, eqb}

-- the number whose bits are those set last by word n, the lowest bit's entry first
unfoldable pub stamped : ℕ → List ℕ → ℕ
stamped n [] = 0
stamped n (x ∷ xs) = cond (eqb x n) 1 0 + 2 * stamped n xs
