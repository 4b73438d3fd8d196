-- The tree and the free list that a sound value carries are determined by the words: one shape to a reference, one chain to a node.
-- So a fact about them may be stated for any sound value of the tables.
-- Assumes nothing.
use Prim.Native.Nat.{ℕ}
use native.Mathlib.Omega.{arith}
use mathlib.Core.Path.{◌≡◌, refl, ap}
use mathlib.Core.List.{List}
use Rattle.model.specs.Tables.{root_of, free_of}
use Rattle.model.specs.Sound.{Shape, tip, fork, Rooted, none, some, Holds, HoldsRoot, SoundAt}
use Rattle.tables.proofs.Shapes.{holds_one}
use Rattle.tables.proofs.Counts.{free_one}

module _ (B : ℕ) (L : List ℕ) where
  not_zero : (t : Shape) → Holds B L 0 t → ⊥
  not_zero (tip h cs) q = let a = q.0 in let b = q.1 in omega arith
  not_zero (fork i p l k) q = let a = q.0 in let b = q.1 in omega arith

  rooted_one : (t u : Rooted) (r : ℕ) → HoldsRoot B L r t → HoldsRoot B L r u → t ≡ u
  rooted_one none none r q q' = refl
  rooted_one none (some u) r q q' = absurd (not_zero u (rw q at q'))
  rooted_one (some t) none r q q' = absurd (not_zero t (rw q' at q))
  rooted_one (some t) (some u) r q q' = ap some (holds_one B L t u r q q')

module _ {B F : ℕ} {sigs L : List ℕ} (S T : SoundAt B F sigs L) where
  pub tree_one : S.tree ≡ T.tree
  tree_one = rooted_one B L S.tree T.tree (root_of L) S.holds T.holds

  pub free_list_one : S.free ≡ T.free
  free_list_one = free_one B L (free_of L) S.free T.free S.free_holds T.free_holds
