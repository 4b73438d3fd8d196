-- Tables of 5 * B + 2 links with no nodes beside them: what they hold are the links themselves.
-- Assumes nothing.
use Prim.Native.Nat.{ℕ}
use native.Mathlib.Omega.{arith}
use mathlib.Core.Path.{◌≡◌, sym, ap}
use mathlib.Core.List.{List, [], ◌∷◌, append-nil}
use lib.ListN.{length}
use Rattle.model.specs.Tables.{word, position_at, left_at, right_at, position_of, left_of, right_of}
use Rattle.model.specs.Packed.{opened, unpacked}
use Rattle.tables.specs.Fits.{PartsOf}

pub none_held : (links nodes : List ℕ) → length nodes ≡ 0 → unpacked links nodes ≡ links
unfolding unpacked opened
none_held links [] e = append-nil links
none_held links (w ∷ ws) e = absurd (omega arith)

-- a node's three words
pub old_parts : (B : ℕ) (links nodes : List ℕ) (i : ℕ) → length nodes ≡ 0 → PartsOf B (unpacked links nodes) i (word links (position_at B i)) (word links (left_at B i)) (word links (right_at B i))
old_parts B links nodes i z = let e = none_held links nodes z in record {
  position = ap (λ (l : List ℕ). position_of B l i) (sym e);
  left = ap (λ (l : List ℕ). left_of B l i) (sym e);
  right = ap (λ (l : List ℕ). right_of B l i) (sym e);
}
