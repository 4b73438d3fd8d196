-- A node seen from one of its sides: u on side e, 0 left or 1 right, and o on the other. What differs between left and right is settled
-- here, by cases on e; all that stands on it says a thing once.
-- Assumes nothing.
use Prim.Native.Nat.{ℕ, zero, suc, ◌+◌, ◌-◌, ◌≤◌, ◌<◌}
use native.Mathlib.Omega.{arith}
use mathlib.Core.Path.{◌≡◌, refl}
use mathlib.Core.Logic.{◌⊎◌, inl, inr}
use mathlib.Core.List.Memᴰ
use mathlib.Core.List.{List, ◌∷◌, ◌++◌, Memᴰ}
use Rattle.model.specs.Signature.{bit_at}
use Rattle.model.specs.Tree.{Tree, node, Edge, edge, Untested}
use Rattle.model.specs.Tables.{position_of, side_of}
use Rattle.model.specs.Sound.{Shape, fork, Holds, nodes, blocks, Placed}
use Rattle.tables.proofs.Shapes.{not_below, blocks_apart, nodes_apart}
use Rattle.tables.proofs.Trees.{shape_tree}

-- the first for 0, else the second
abbrev pub pick : {A : Type 0} → ℕ → A → A → A
pick zero x y = x
pick (suc e) x y = y

-- node i with position p, u on its side e and o on the other
abbrev pub forked : ℕ → ℕ → ℕ → Shape → Shape → Shape
forked e i p u o = fork i p (pick e u o) (pick e o u)

-- the same of plain trees
abbrev pub noded : ℕ → ℕ → Tree → Tree → Tree
noded e p x y = node p (pick e x y) (pick e y x)

-- a bit is a side
pub edge_small : (F s p : ℕ) {e : ℕ} → bit_at F s p ≡ e → e ≤ 1
edge_small F s p z = omega arith

pub tree_forked : (sigs : List ℕ) (e i p : ℕ) (u o : Shape) → shape_tree sigs (forked e i p u o) ≡ noded e p (shape_tree sigs u) (shape_tree sigs o)
tree_forked sigs zero i p u o = refl
tree_forked sigs (suc e) i p u o = refl

-- membership in the nodes, or in the blocks, of the two sides
module _ (of : Shape → List ℕ) (u o : Shape) {c : ℕ} where
  pub on_side : (e : ℕ) → Memᴰ c (of u) → Memᴰ c (of (pick e u o) ++ of (pick e o u))
  on_side zero m = Memᴰ.append_left (of o) m
  on_side (suc e) m = Memᴰ.append_right (of o) m

  pub off_side : (e : ℕ) → Memᴰ c (of o) → Memᴰ c (of (pick e u o) ++ of (pick e o u))
  off_side zero m = Memᴰ.append_right (of u) m
  off_side (suc e) m = Memᴰ.append_left (of u) m

  pub which_side : (e : ℕ) → Memᴰ c (of (pick e u o) ++ of (pick e o u)) → Memᴰ c (of u) ⊎ Memᴰ c (of o)
  which_side zero m = Memᴰ.append_cases (of u) m
  which_side (suc e) m = swap (Memᴰ.append_cases (of o) m)
    where
      swap : Memᴰ c (of o) ⊎ Memᴰ c (of u) → Memᴰ c (of u) ⊎ Memᴰ c (of o)
      swap (inl n) = inr n
      swap (inr n) = inl n

module _ (B : ℕ) (L : List ℕ) where
  -- the side words hold the two sides, and a node whose side words do is that node
  pub sides_held : (e i p : ℕ) (u o : Shape) (r : ℕ) → e ≤ 1 → Holds B L r (forked e i p u o) → Holds B L (side_of B L i e) u × Holds B L (side_of B L i (1 - e)) o
  sides_held zero i p u o r h q = (q.4, q.5)
  sides_held (suc zero) i p u o r h q = (q.5, q.4)
  sides_held (suc (suc e)) i p u o r h q = absurd (omega arith)

  pub hold_sides : (e i p : ℕ) (u o : Shape) (r : ℕ) → e ≤ 1 → r ≡ B + i → 1 ≤ i → i < B → position_of B L i ≡ p
      → Holds B L (side_of B L i e) u → Holds B L (side_of B L i (1 - e)) o → Holds B L r (forked e i p u o)
  hold_sides zero i p u o r h a b c d x y = (a, b, c, d, x, y)
  hold_sides (suc zero) i p u o r h a b c d x y = (a, b, c, d, y, x)
  hold_sides (suc (suc e)) i p u o r h a b c d x y = absurd (omega arith)

  -- the node is on neither side
  pub not_on_sides : (e i p : ℕ) (u o : Shape) (r : ℕ) → Holds B L r (forked e i p u o) → (Memᴰ i (nodes u) → ⊥) × (Memᴰ i (nodes o) → ⊥)
  not_on_sides zero i p u o r q = not_below B L i p u o r q
  not_on_sides (suc e) i p u o r q = let n = not_below B L i p o u r q in (n.1, n.0)

  module _ (F : ℕ) (sigs : List ℕ) (path : List Edge) where
    pub sides_placed : (e i p : ℕ) (u o : Shape) → e ≤ 1 → Placed F sigs L path (forked e i p u o) → Placed F sigs L (edge p e ∷ path) u × Placed F sigs L (edge p (1 - e) ∷ path) o
    sides_placed zero i p u o h q = (q.3, q.4)
    sides_placed (suc zero) i p u o h q = (q.4, q.3)
    sides_placed (suc (suc e)) i p u o h q = absurd (omega arith)

    pub place_sides : (e i p : ℕ) (u o : Shape) → e ≤ 1 → 1 ≤ p → p ≤ F → Untested p path
        → Placed F sigs L (edge p e ∷ path) u → Placed F sigs L (edge p (1 - e) ∷ path) o → Placed F sigs L path (forked e i p u o)
    place_sides zero i p u o h a b c x y = (a, b, c, x, y)
    place_sides (suc zero) i p u o h a b c x y = (a, b, c, y, x)
    place_sides (suc (suc e)) i p u o h a b c x y = absurd (omega arith)

    -- no block and no node is on both
    pub sides_blocks : (e i p : ℕ) (u o : Shape) → Placed F sigs L path (forked e i p u o) → (c : ℕ) → Memᴰ c (blocks u) → Memᴰ c (blocks o) → ⊥
    sides_blocks zero i p u o q c m n = blocks_apart B L F sigs path i p u o q c m n
    sides_blocks (suc e) i p u o q c m n = blocks_apart B L F sigs path i p o u q c n m

    pub sides_nodes : (e i p : ℕ) (u o : Shape) (r : ℕ) → Holds B L r (forked e i p u o) → Placed F sigs L path (forked e i p u o)
        → (j : ℕ) → Memᴰ j (nodes u) → Memᴰ j (nodes o) → ⊥
    sides_nodes zero i p u o r h q j m n = nodes_apart B L F sigs path i p u o r h q j m n
    sides_nodes (suc e) i p u o r h q j m n = nodes_apart B L F sigs path i p o u r h q j n m
