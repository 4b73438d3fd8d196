-- What document 01 says of sound tables besides, derived: where the root is, the number of nodes, and that free nodes never run out.
-- The tree has one node less than leaves and each leaf a filed block of its own, so while a block is unfiled some node is outside.
-- Assumes nothing.
use Prim.Native.Nat.{ℕ, zero, suc, ◌*◌, ◌≤◌, ◌<◌}
use native.Mathlib.Omega.{arith}
use mathlib.Core.Path.{◌≡◌, refl, subst}
use mathlib.Core.Logic.{◌⊎◌, inl, inr, ◌↔◌}
use mathlib.Core.List.Memᴰ
use mathlib.Core.List.{List, [], ◌∷◌, Memᴰ}
use lib.ListN.{length, length-append}
use Rattle.model.specs.Tree.{signatures}
use Rattle.model.specs.Tables.{root_of, free_of, filed_of}
use Rattle.model.specs.Sound.{Shape, tip, fork, Rooted, none, some, HoldsRoot, PlacedRoot, nodes, nodes_in, blocks_in, FreeChain, SoundAt}
use Rattle.tables.proofs.Shapes.{blocks_range, blocks_placed, some_block}
use Rattle.tables.proofs.Counts.{node_left}
use Rattle.tables.proofs.Trees.{shape_tree}

zero_or : (n : ℕ) → n ≤ 1 → (n ≡ 1 → ⊥) → n ≡ 0
zero_or zero h f = refl
zero_or (suc n) h f = absurd (f (omega arith))

-- the tree has one node less than leaves; each leaf has a signature of its own (Shapes.blocks_apart)
pub one_node_less : (sigs : List ℕ) (t : Shape) → length (signatures (shape_tree sigs t)) ≡ suc (length (nodes t))
unfolding signatures
one_node_less sigs (tip h cs) = refl
one_node_less sigs (fork i p l k) =
    omega (arith, length-append (signatures (shape_tree sigs l)) (signatures (shape_tree sigs k)), length-append (nodes l) (nodes k), one_node_less sigs l, one_node_less sigs k)

module _ {B F : ℕ} {sigs L : List ℕ} (S : SoundAt B F sigs L) where
  -- root is below 2 * B
  pub root_below : root_of L < 2 * B
  root_below = go S.tree S.holds
    where
      go : (t : Rooted) → HoldsRoot B L (root_of L) t → root_of L < 2 * B
      go none q = omega (arith, S.fits.blocks_from)
      go (some (tip h cs)) q = let a = q.0 in let b = q.2 in omega (arith, S.fits.blocks_from)
      go (some (fork i p l k)) q = let a = q.0 in let b = q.2 in omega arith

  -- and 0 exactly when nothing is filed
  pub root_zero : (root_of L ≡ 0) ↔ ((b : ℕ) → 1 ≤ b → b ≤ B → filed_of L b ≡ 0)
  root_zero = (go S.tree S.holds S.on_chain, back S.tree S.holds S.placed)
    where
      go : (t : Rooted) → HoldsRoot B L (root_of L) t → ((b : ℕ) → 1 ≤ b → b ≤ B → filed_of L b ≡ 1 → Memᴰ b (blocks_in t)) → root_of L ≡ 0 → (b : ℕ) → 1 ≤ b → b ≤ B → filed_of L b ≡ 0
      go none q on e b h h' = zero_or (filed_of L b) (S.filed_bit b h h') (λ x. Memᴰ.not-nil (on b h h' x))
      go (some (tip g cs)) q on e b h h' = let a = q.0 in let c = q.1 in absurd (omega arith)
      go (some (fork i p l k)) q on e b h h' = let a = q.0 in let c = q.1 in absurd (omega arith)

      back : (t : Rooted) → HoldsRoot B L (root_of L) t → PlacedRoot F sigs L t → ((b : ℕ) → 1 ≤ b → b ≤ B → filed_of L b ≡ 0) → root_of L ≡ 0
      back none q pl z = q
      back (some t) q pl z =
          let x = some_block B L F sigs t in
          let r = blocks_range B L t (root_of L) q x.0 x.1 in
          absurd (omega (arith, z x.0 r.0 r.1, (blocks_placed B L F sigs [] t pl x.0 x.1).0))

  -- while a block is unfiled, a node is free: a split has one to take
  pub free_left : (b : ℕ) → 1 ≤ b → b ≤ B → filed_of L b ≡ 0 → (t : Shape) → S.tree ≡ some t → (i : ℕ) × (is : List ℕ) × (S.free ≡ i ∷ is) × (free_of L ≡ i)
  free_left b h h' z t is_t = go S.free refl S.free_holds
    where
      in_tree : S.free ≡ [] → (i : ℕ) → Memᴰ i (nodes_in S.tree) ⊎ Memᴰ i S.free → Memᴰ i (nodes t)
      in_tree e i (inl m) = subst (λ (x : Rooted). Memᴰ i (nodes_in x)) is_t m
      in_tree e i (inr m) = absurd (Memᴰ.not-nil (subst (Memᴰ i) e m))

      go : (f : List ℕ) → S.free ≡ f → FreeChain B L (free_of L) f → (i : ℕ) × (is : List ℕ) × (S.free ≡ i ∷ is) × (free_of L ≡ i)
      go [] e q =
          absurd (node_left B F sigs L t (root_of L) (subst (HoldsRoot B L (root_of L)) is_t S.holds) (subst (PlacedRoot F sigs L) is_t S.placed) b h h' z (λ i x y. in_tree e i (S.free_all i x y)))
      go (i ∷ is) e q = (i, is, e, q.0)
