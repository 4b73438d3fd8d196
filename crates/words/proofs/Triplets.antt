-- A word under three bytes has no triplet, and a triplet's position is 1 to F.
-- Assumes nothing.
use mathlib.Core.Path.{◌≡◌, refl}
use mathlib.Core.List.{List, [], ◌∷◌}
use Prim.Native.Nat.{ℕ, ◌+◌, ◌*◌, ◌≤◌}
use native.Mathlib.Nat.{mod-lt}
use native.Mathlib.Omega.{arith}
use lib.ListN.{length}
use Rattle.model.specs.Words.{triplet_position, triplets_from, triplets}

-- a word under three bytes has none
pub triplets_short : (F : ℕ) (w : List ℕ) → length w ≤ 2 → triplets F w ≡ []
unfolding triplets triplets_from
triplets_short F [] h = refl
triplets_short F (a ∷ []) h = refl
triplets_short F (a ∷ b ∷ []) h = refl
triplets_short F (a ∷ b ∷ c ∷ l) h = absurd (omega arith)

-- a triplet's position is one of the width
pub position_inside : (F a b c : ℕ) → 1 ≤ F → (1 ≤ triplet_position F a b c) × (triplet_position F a b c ≤ F)
unfolding triplet_position
position_inside F a b c h = (omega arith, omega (arith, mod-lt (961 * a + 31 * b + c) h))
