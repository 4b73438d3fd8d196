-- Filing and withdrawing in a plain tree go down by the bits of s: each changes only the side that s takes. These are the steps that
-- Ways.replace_tree asks of them, and what they do at the leaf.
-- Assumes nothing.
use Prim.Native.Nat.{ℕ, zero, suc}
use native.Mathlib.Omega.{arith}
use mathlib.Core.Path.{◌≡◌, refl}
use mathlib.Core.Logic.{◌≢◌}
use mathlib.Core.List.{List}
use borrow.Author.Tests.{eq-eqb, ne_eqb}
use Rattle.model.specs.Signature.{bit_at, first_difference}
use Rattle.model.specs.Tree.{Tree, nothing, leaf, node, insert, split, remove, join}
use Rattle.model.specs.Sound.{Shape, tip, fork}
use Rattle.tables.proofs.Trees.{shape_tree}
use Rattle.tables.proofs.Sides.{noded, edge_small}

pub insert_noded : (F s e p : ℕ) (x y : Tree) → bit_at F s p ≡ e → insert F s (noded e p x y) ≡ noded e p (insert F s x) y
unfolding insert
insert_noded F s zero p x y z = rw (z, insert)
insert_noded F s (suc zero) p x y z = rw (z, insert)
insert_noded F s (suc (suc e)) p x y z = absurd (omega (arith, edge_small F s p z))

-- a leaf of another signature becomes a node
pub insert_split : (F s a e : ℕ) → a ≢ s → bit_at F s (first_difference F s a) ≡ e → insert F s (leaf a) ≡ noded e (first_difference F s a) (leaf s) (leaf a)
unfolding insert split
insert_split F s a zero n z = rw (ne_eqb a s n, insert, z, split)
insert_split F s a (suc zero) n z = rw (ne_eqb a s n, insert, z, split)
insert_split F s a (suc (suc e)) n z = absurd (omega (arith, edge_small F s (first_difference F s a) z))

-- no side is gone
join_shapes : (sigs : List ℕ) (p : ℕ) (x y : Shape) → join p (shape_tree sigs x) (shape_tree sigs y) ≡ node p (shape_tree sigs x) (shape_tree sigs y)
unfolding join
join_shapes sigs p (tip h cs) (tip g ds) = refl
join_shapes sigs p (tip h cs) (fork i q l k) = refl
join_shapes sigs p (fork i q l k) (tip g ds) = refl
join_shapes sigs p (fork i q l k) (fork j o m n) = refl

pub remove_noded : (F s : ℕ) (sigs : List ℕ) (e p : ℕ) (x y : Shape) (a : Tree) → bit_at F s p ≡ e → remove F s a ≡ shape_tree sigs x
    → remove F s (noded e p a (shape_tree sigs y)) ≡ noded e p (remove F s a) (shape_tree sigs y)
unfolding remove
remove_noded F s sigs zero p x y a z h = rw (z, remove, h) (join_shapes sigs p x y)
remove_noded F s sigs (suc zero) p x y a z h = rw (z, remove, h) (join_shapes sigs p y x)
remove_noded F s sigs (suc (suc e)) p x y a z h = absurd (omega (arith, edge_small F s p z))

-- the sibling of the leaf that goes takes the parent's place
pub remove_raised : (F s e p : ℕ) (y : Tree) → bit_at F s p ≡ e → remove F s (noded e p (leaf s) y) ≡ y
unfolding remove join
remove_raised F s zero p y z = rw (z, remove, eq-eqb s s refl, join)
remove_raised F s (suc zero) p nothing z = rw (z, remove, eq-eqb s s refl, join)
remove_raised F s (suc zero) p (leaf a) z = rw (z, remove, eq-eqb s s refl, join)
remove_raised F s (suc zero) p (node q l k) z = rw (z, remove, eq-eqb s s refl, join)
remove_raised F s (suc (suc e)) p y z = absurd (omega (arith, edge_small F s p z))

pub remove_leaf : (F s a : ℕ) → a ≡ s → remove F s (leaf a) ≡ nothing
unfolding remove
remove_leaf F s a e = rw (eq-eqb a s e, remove)
