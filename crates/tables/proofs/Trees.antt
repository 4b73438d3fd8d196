-- The plain tree of a shape: the tables' tree function gives it wherever the links spell the shape, since the walk down follows the
-- shape's own recursion. The tree of a placed shape is proper: Placed says of a shape what Below says of a plain tree.
-- Assumes nothing.
use Prim.Native.Nat.{ℕ, zero, suc, ◌-◌, ◌≤◌, max}
use native.Mathlib.Omega.{arith}
use mathlib.Core.Path.{◌≡◌, refl, sym, ap, ap₂, subst}
use mathlib.Core.Logic.{inl, inr}
use mathlib.Core.List.Memᴰ
use mathlib.Core.List.{List, [], ◌∷◌, Memᴰ}
use borrow.Author.Tests.{ne_eqb, le-leb, lt-leb}
use Rattle.model.specs.Tree.{Tree, nothing, leaf, node, Edge, edge}
use Rattle.model.specs.Tables.{word, left_at, right_at, signature_of, tree_from}
use Rattle.model.specs.Sound.{Shape, tip, fork, Rooted, none, some, Holds, HoldsRoot, blocks, Placed, PlacedRoot, SoundAt}
use Rattle.model.proofs.Trees.{Below, Proper, height, height_fits}

-- the longest path's nodes
abbrev pub depth : Shape → ℕ
depth (tip h cs) = 0
depth (fork i p l k) = suc (max (depth l) (depth k))

-- the plain tree of a shape
abbrev pub shape_tree : List ℕ → Shape → Tree
shape_tree sigs (tip h cs) = leaf (signature_of sigs h)
shape_tree sigs (fork i p l k) = node p (shape_tree sigs l) (shape_tree sigs k)

pub tree_from_shape : (B : ℕ) (sigs L : List ℕ) (t : Shape) (n r : ℕ) → Holds B L r t → depth t ≤ n → tree_from B sigs L n r ≡ shape_tree sigs t
unfolding tree_from
tree_from_shape B sigs L (tip h cs) zero r q d =
    let a = q.0 in
    let b = q.1 in
    rw (ne_eqb r 0 (omega arith), tree_from, q.0)
tree_from_shape B sigs L (tip h cs) (suc n) r q d =
    let a = q.0 in
    let b = q.1 in
    let c = q.2 in
    rw (ne_eqb r 0 (omega arith), tree_from, le-leb r B (omega arith), q.0)
tree_from_shape B sigs L (fork i p l k) zero r q d = absurd (omega arith)
tree_from_shape B sigs L (fork i p l k) (suc n) r q d =
    let a = q.0 in
    let b = q.1 in
    let e : r - B ≡ i = omega arith in
    rw (
      ne_eqb r 0 (omega arith),
      tree_from,
      lt-leb r B (omega arith),
      e,
      q.3,
      tree_from_shape B sigs L l n (word L (left_at B i)) q.4 (omega arith),
      tree_from_shape B sigs L k n (word L (right_at B i)) q.5 (omega arith),
    )

pub tree_from_none : (B : ℕ) (sigs L : List ℕ) (n r : ℕ) → r ≡ 0 → tree_from B sigs L n r ≡ nothing
unfolding tree_from
tree_from_none B sigs L zero r e = rw e
tree_from_none B sigs L (suc n) r e = rw e

pub tree_same : (sigs sigs' : List ℕ) (t : Shape) → ((c : ℕ) → Memᴰ c (blocks t) → signature_of sigs' c ≡ signature_of sigs c) → shape_tree sigs' t ≡ shape_tree sigs t
tree_same sigs sigs' (tip h cs) o = ap leaf (o h (Memᴰ.head refl))
tree_same sigs sigs' (fork i p l k) o =
    ap₂ (node p) (tree_same sigs sigs' l (λ c m. o c (Memᴰ.append_left (blocks k) m))) (tree_same sigs sigs' k (λ c m. o c (Memᴰ.append_right (blocks l) m)))

-- the plain tree of a placed shape stands below the same path, and is as high as the shape is deep
pub placed_below : (F : ℕ) (sigs L : List ℕ) (es : List Edge) (t : Shape) → Placed F sigs L es t → Below F es (shape_tree sigs t)
placed_below F sigs L es (tip h cs) q = q.0
placed_below F sigs L es (fork i p l k) q = (q.0, q.1, q.2, placed_below F sigs L (edge p 0 ∷ es) l q.3, placed_below F sigs L (edge p 1 ∷ es) k q.4)

height_shape : (sigs : List ℕ) (t : Shape) → height (shape_tree sigs t) ≡ depth t
height_shape sigs (tip h cs) = refl
height_shape sigs (fork i p l k) = rw (height_shape sigs l, height_shape sigs k)

pub depth_root : (F : ℕ) (sigs L : List ℕ) (t : Shape) → Placed F sigs L [] t → depth t ≤ F
depth_root F sigs L t q = subst (λ (n : ℕ). n ≤ F) (height_shape sigs t) (height_fits F (shape_tree sigs t) (inr (placed_below F sigs L [] t q)))

-- the plain tree of what the root leads to
abbrev pub tree_rooted : List ℕ → Rooted → Tree
tree_rooted sigs none = nothing
tree_rooted sigs (some t) = shape_tree sigs t

rooted_tree : (B F : ℕ) (sigs L : List ℕ) (t : Rooted) → HoldsRoot B L (word L 2) t → PlacedRoot F sigs L t → tree_from B sigs L F (word L 2) ≡ tree_rooted sigs t
rooted_tree B F sigs L none q pl = tree_from_none B sigs L F (word L 2) q
rooted_tree B F sigs L (some t) q pl = tree_from_shape B sigs L t F (word L 2) q (depth_root F sigs L t pl)

-- the plain tree of sound tables is that of their shape
pub tree_of_sound : {B F : ℕ} {sigs L : List ℕ} (S : SoundAt B F sigs L) → tree_from B sigs L F (word L 2) ≡ tree_rooted sigs S.tree
tree_of_sound {B} {F} {sigs} {L} S = rooted_tree B F sigs L S.tree S.holds S.placed

-- and it is proper
rooted_proper : (F : ℕ) (sigs L : List ℕ) (t : Rooted) → PlacedRoot F sigs L t → Proper F (tree_rooted sigs t)
rooted_proper F sigs L none pl = inl refl
rooted_proper F sigs L (some t) pl = inr (placed_below F sigs L [] t pl)

pub tree_proper : {B F : ℕ} {sigs L : List ℕ} (S : SoundAt B F sigs L) → Proper F (tree_from B sigs L F (word L 2))
tree_proper {B} {F} {sigs} {L} S = subst (Proper F) (sym (tree_of_sound S)) (rooted_proper F sigs L S.tree S.placed)
