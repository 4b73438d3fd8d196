-- A node's parts by a side, in the word.
-- Assumes nothing.
use Prim.Native.Nat.{ℕ, zero, suc}
use native.Mathlib.Omega.{arith}
use lib.Dec.{eqb, eqb-suc-zero}
use mathlib.Core.Path.{◌≡◌, refl, ap}
use mathlib.Core.Bool.{true, not}
use Rattle.model.proofs.Asking.{true_false}
use mathlib.Core.Logic.{◌↔◌}
use Rattle.model.specs.Packed.{node_word}
use Rattle.tables.specs.declared.nodes.Parts.{Parts}
use Rattle.tables.specs.declared.side.Side.{Side}
use Rattle.tables.specs.declared.side.Side.TheVariants.{Left, Right}
use Rattle.tables.specs.Nodes.{sides_word}
use Rattle.tables.specs.Parts.{by_side}
use Rattle.tables.specs.Sides.{side_number}

pub by_side_word : (q : Parts) (p : ℕ) (side : Side) (x y : ℕ) → q ≡ by_side p side x y → node_word q.position q.left q.right ≡ sides_word p (side_number side) x y
unfolding sides_word
by_side_word q p Left x y e = rw e refl
by_side_word q p Right x y e = rw e refl

-- a side told from its number
pub by_number : (p e x y : ℕ) (side : Side) → (side_number side ≡ 1) ↔ (not (eqb e 0) ≡ true) → sides_word p (side_number side) x y ≡ sides_word p e x y
unfolding sides_word
by_number p zero x y Left h = refl
by_number p zero x y Right h = true_false (h.0 refl) refl
by_number p (suc e) x y Left h = absurd (let k = h.1 (ap not (eqb-suc-zero e)) in omega arith)
by_number p (suc e) x y Right h = refl
