-- The rebuilt shape's plain tree is the tree made anew from the heads' signatures: splitting blocks by their signatures, and
-- splitting the signatures themselves, are the same choices.
-- Assumes nothing.
use Prim.Native.Nat.{ℕ, suc, ◌-◌, ◌≤◌, min}
use native.Mathlib.Decide.{ℕ_discrete}
use native.Mathlib.Omega.{arith}
use mathlib.Core.Path.{◌≡◌, refl, sym, ◌∙◌, ap, ap₂}
use mathlib.Core.List.{List, [], ◌∷◌, ◌++◌, map}
use lib.Dec.{eqb}
use lib.ListN.{length, length-map}
use borrow.Author.Tests.{eq-eqb, ne_eqb}
use Rattle.model.specs.Basics.{keep, up_from}
use Rattle.model.specs.Signature.{bit_at}
use Rattle.model.specs.Tree.{node, signatures}
use Rattle.model.specs.Build.{side, smaller, best_of, best_position, build_within}
use Rattle.model.specs.Tables.{signature_of}
use Rattle.model.specs.Sound.{Shape, tip, fork}
use Rattle.model.proofs.Keep.{keep_yes, keep_no}
use Rattle.tables.proofs.Counts.{heads}
use Rattle.tables.proofs.Trees.{shape_tree}
use Rattle.split.specs.Split.{Apart, Below}
use Rattle.split.proofs.Nodes.{half, group_induction}
use Rattle.rebuild.proofs.Shaped.{shape_of, shape_step}

map_append : (of : ℕ → ℕ) (k l : List ℕ) → map of (k ++ l) ≡ map of k ++ map of l
map_append of [] l = refl
map_append of (x ∷ k) l = ap (λ (m : List ℕ). of x ∷ m) (map_append of k l)

-- the signatures of a shape's leaves are those of its heads
pub signatures_heads : (sigs : List ℕ) (t : Shape) → signatures (shape_tree sigs t) ≡ map (signature_of sigs) (heads t)
unfolding signatures
signatures_heads sigs (tip h cs) = refl
signatures_heads sigs (fork i p l k) = ap₂ ◌++◌ (signatures_heads sigs l) (signatures_heads sigs k) ∙ sym (map_append (signature_of sigs) (heads l) (heads k))

module _ (F : ℕ) (of : ℕ → ℕ) where
  side_map : (p e : ℕ) (l : List ℕ) → side F (λ s. s) p e (map of l) ≡ map of (side F of p e l)
  unfolding keep
  side_map p e [] = refl
  side_map p e (x ∷ l) = go (ℕ_discrete (bit_at F (of x) p) e) (side_map p e l)
    where
      go : Dec (bit_at F (of x) p ≡ e) → side F (λ s. s) p e (map of l) ≡ map of (side F of p e l) → side F (λ s. s) p e (map of (x ∷ l)) ≡ map of (side F of p e (x ∷ l))
      go (yes h) ih =
          let b = eq-eqb (bit_at F (of x) p) e h in
          keep_yes (λ s. eqb (bit_at F s p) e) (of x) (map of l) b ∙ ap (λ (m : List ℕ). of x ∷ m) ih ∙ sym (ap (map of) (keep_yes (λ y. eqb (bit_at F (of y) p) e) x l b))
      go (no h) ih =
          let b = ne_eqb (bit_at F (of x) p) e h in
          keep_no (λ s. eqb (bit_at F s p) e) (of x) (map of l) b ∙ ih ∙ sym (ap (map of) (keep_no (λ y. eqb (bit_at F (of y) p) e) x l b))

  size_map : (p e : ℕ) (l : List ℕ) → length (side F (λ s. s) p e (map of l)) ≡ length (side F of p e l)
  size_map p e l = ap length (side_map p e l) ∙ length-map (side F of p e l) of

  smaller_map : (p : ℕ) (l : List ℕ) → smaller F (λ s. s) p (map of l) ≡ smaller F of p l
  unfolding smaller
  smaller_map p l = ap₂ min (size_map p 0 l) (size_map p 1 l)

  best_of_map : (l ps : List ℕ) (best : ℕ) → best_of F (λ s. s) (map of l) best ps ≡ best_of F of l best ps
  unfolding best_of
  best_of_map l [] best = refl
  best_of_map l (p ∷ ps) best = rw (smaller_map best l, smaller_map p l) (best_of_map l ps _)

  best_map : (l : List ℕ) → best_position F (λ s. s) (map of l) ≡ best_position F of l
  best_map l = best_of_map l (up_from (F - 1) 2) 1

  -- a side of the mapped list at its own best position
  half_map : (e : ℕ) (l : List ℕ) → side F (λ s. s) (best_position F (λ s. s) (map of l)) e (map of l) ≡ map of (side F of (best_position F of l) e l)
  half_map e l = ap (λ (p : ℕ). side F (λ s. s) p e (map of l)) (best_map l) ∙ side_map (best_position F of l) e l

module _ (F : ℕ) (sigs : List ℕ) (ch : ℕ → List ℕ) (below : Below F sigs) where
  abbrev Made : ℕ → List ℕ → ℕ → Type 0
  Made m g i = shape_tree sigs (shape_of F sigs ch m g i) ≡ build_within m F (map (signature_of sigs) g)

  build_step : (m : ℕ) (g : List ℕ) → 2 ≤ length g → build_within (suc m) F (map (signature_of sigs) g)
      ≡ node (best_position F (signature_of sigs) g) (build_within m F (map (signature_of sigs) (half F sigs 0 g))) (build_within m F (map (signature_of sigs) (half F sigs 1 g)))
  unfolding build_within
  build_step m [] h = absurd (omega arith)
  build_step m (x ∷ []) h = absurd (omega arith)
  build_step m (x ∷ y ∷ t) h =
      let g : List ℕ = x ∷ y ∷ t in
      let p = best_map F (signature_of sigs) g in
      let l = half_map F (signature_of sigs) 0 g in
      let r = half_map F (signature_of sigs) 1 g in
      cc

  pub tree_shape : (m : ℕ) (g : List ℕ) (i : ℕ) → Apart sigs g → 1 ≤ length g → length g ≤ m → shape_tree sigs (shape_of F sigs ch m g i) ≡ build_within m F (map (signature_of sigs) g)
  unfolding shape_of build_within
  tree_shape = group_induction F sigs below Made (λ m x i. refl) (λ m g i two z tl tr.
      ap (shape_tree sigs) (shape_step F sigs ch below m g i two) ∙ ap₂ (node (best_position F (signature_of sigs) g)) tl tr ∙ sym (build_step m g two))
