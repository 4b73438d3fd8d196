-- The links of cleared packed tables.
-- Assumes nothing.
use Rattle.std.specs.Prelude.{ℕ, ◌*◌, List, ◌∷◌, replicate}
use Rattle.model.specs.Clear.{free_from}

-- words 0, 1 and 3 are F, B and the first free node, and all other words 0
unfoldable pub clear_rows : ℕ → ℕ → List ℕ
clear_rows B F = F ∷ B ∷ 0 ∷ free_from B 1 ∷ 0 ∷ replicate (2 * B) 0
