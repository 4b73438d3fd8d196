-- The way that a signature's bits take through a shape, down to a part of it: as a derivation, so that what is true of the part is
-- carried up, and what is true of the shape down, by one recursion with one case for a step down, to side e of a node.
-- Assumes nothing.
use Prim.Native.Nat.{ℕ, zero, suc, ◌-◌, ◌≤◌}
use native.Mathlib.Omega.{arith}
use mathlib.Core.Path.{◌≡◌, refl, sym, ◌∙◌, ap, subst}
use mathlib.Core.Logic.{◌⊎◌, inl, inr}
use mathlib.Core.List.{List, ◌∷◌, Memᴰ}
use borrow.Author.Tests.{le-leb, lt-leb}
use Rattle.model.specs.Signature.{bit_at}
use Rattle.model.specs.Tree.{Tree, Edge, edge, Agrees}
use Rattle.model.specs.Tables.{word, side_at, signature_of}
use Rattle.model.specs.Sound.{Shape, tip, fork, Holds, nodes, blocks, Placed}
use Rattle.model.specs.File.{spot_from}
use Rattle.model.proofs.Bits.{bit_cases}
use Rattle.tables.proofs.Shapes.{blocks_placed}
use Rattle.tables.proofs.Trees.{depth, shape_tree, tree_same}
use Rattle.tables.proofs.Sides.{forked, noded, edge_small, tree_forked, on_side, off_side, which_side, sides_held, sides_placed, sides_blocks}

-- a way by the bits of s from a shape down to a part v of it
pub data Way (F s : ℕ) (v : Shape) : Shape → Type 0 where
  here : {t : Shape} → t ≡ v → Way F s v t
  down : {i p : ℕ} {x : Shape} (e : ℕ) (o : Shape) → bit_at F s p ≡ e → Way F s v x → Way F s v (forked e i p x o)

-- the way to a leaf
pub record Reached (F s : ℕ) (t : Shape) : Type 0 where
  pub head : ℕ
  pub others : List ℕ
  pub to : Way F s (tip head others) t

pub reach : (F s : ℕ) (t : Shape) → Reached F s t
reach F s (tip h cs) = record { head = h; others = cs; to = here refl }
reach F s (fork i p l k) = go (bit_cases F s p) (reach F s l) (reach F s k)
  where
    go : (bit_at F s p ≡ 0) ⊎ (bit_at F s p ≡ 1) → Reached F s l → Reached F s k → Reached F s (fork i p l k)
    go (inl e) a b = record { head = a.head; others = a.others; to = down 0 k e a.to }
    go (inr e) a b = record { head = b.head; others = b.others; to = down 1 l e b.to }

-- every shape but the part itself has a step down
pub depth_forked : (e i p : ℕ) (x o : Shape) → suc (depth x) ≤ depth (forked e i p x o)
depth_forked zero i p x o = omega arith
depth_forked (suc e) i p x o = omega arith

module _ {F s : ℕ} {v : Shape} where
  -- the address of the word that holds the part's reference, where at is the address of the shape's
  abbrev pub spot : (B at : ℕ) {t : Shape} → Way F s v t → ℕ
  spot B at (here e) = at
  spot B at (down {i = i} e o z w) = spot B (side_at B i e) w

  -- another shape in the part's place
  abbrev pub replace : {t : Shape} → Way F s v t → Shape → Shape
  replace (here e) u = u
  replace (down {i = i} {p = p} e o z w) u = forked e i p (replace w u) o

  -- the part's path
  abbrev pub path_to : List Edge → {t : Shape} → Way F s v t → List Edge
  path_to path (here e) = path
  path_to path (down {p = p} e o z w) = path_to (edge p e ∷ path) w

  pub way_agrees : (path : List Edge) {t : Shape} (w : Way F s v t) → Agrees F s path → Agrees F s (path_to path w)
  way_agrees path (here e) a = a
  way_agrees path (down {p = p} e o z w) a = way_agrees (edge p e ∷ path) w (z, a)

  -- the part's blocks and nodes, words and place are the shape's
  pub part_blocks : {t : Shape} (w : Way F s v t) (c : ℕ) → Memᴰ c (blocks v) → Memᴰ c (blocks t)
  part_blocks (here e) c m = subst (λ (x : Shape). Memᴰ c (blocks x)) (sym e) m
  part_blocks (down {x = x} e o z w) c m = on_side blocks x o e (part_blocks w c m)

  pub part_nodes : {t : Shape} (w : Way F s v t) (j : ℕ) → Memᴰ j (nodes v) → Memᴰ j (nodes t)
  part_nodes (here e) j m = subst (λ (x : Shape). Memᴰ j (nodes x)) (sym e) m
  part_nodes (down {x = x} e o z w) j m = Memᴰ.tail (on_side nodes x o e (part_nodes w j m))

  pub part_holds : (B : ℕ) (L : List ℕ) (at : ℕ) {t : Shape} (w : Way F s v t) → Holds B L (word L at) t → Holds B L (word L (spot B at w)) v
  part_holds B L at (here e) q = subst (Holds B L (word L at)) e q
  part_holds B L at (down {i = i} {p = p} {x = x} e o z w) q = part_holds B L (side_at B i e) w (sides_held B L e i p x o (word L at) (edge_small F s p z) q).0

  pub part_placed : (sigs L : List ℕ) (path : List Edge) {t : Shape} (w : Way F s v t) → Placed F sigs L path t → Placed F sigs L (path_to path w) v
  part_placed sigs L path (here e) q = subst (Placed F sigs L path) e q
  part_placed sigs L path (down {i = i} {p = p} {x = x} e o z w) q =
      part_placed sigs L (edge p e ∷ path) w (sides_placed 0 L F sigs path e i p x o (edge_small F s p z) q).0

  -- The plain tree of the new shape is the old one's changed by f, where that is so of the part's, f goes down by the bits of s, and the
  -- signatures outside the part stay. Filing is f = insert F s, withdrawing f = remove F s or no change.
  pub replace_tree : (f : Tree → Tree) (sigs sigs' L : List ℕ)
      → ((e p : ℕ) (x y : Shape) (a : Tree) → bit_at F s p ≡ e → f a ≡ shape_tree sigs' x → f (noded e p a (shape_tree sigs' y)) ≡ noded e p (f a) (shape_tree sigs' y))
      → (path : List Edge) {t : Shape} (w : Way F s v t) (u : Shape) → Placed F sigs L path t
      → ((c : ℕ) → Memᴰ c (blocks t) → (Memᴰ c (blocks v) → ⊥) → signature_of sigs' c ≡ signature_of sigs c)
      → shape_tree sigs' u ≡ f (shape_tree sigs v) → shape_tree sigs' (replace w u) ≡ f (shape_tree sigs t)
  replace_tree f sigs sigs' L step path (here e) u pl o q = q ∙ ap (λ (x : Shape). f (shape_tree sigs x)) (sym e)
  replace_tree f sigs sigs' L step path (down {i = i} {p = p} {x = x} e y z w) u pl o q =
      let ih = replace_tree f sigs sigs' L step (edge p e ∷ path) w u (sides_placed 0 L F sigs path e i p x y (edge_small F s p z) pl).0 (λ c m. o c (on_side blocks x y e m)) q in
      let other = tree_same sigs sigs' y (λ c m. o c (off_side blocks x y e m) (λ n. sides_blocks 0 L F sigs path e i p x y pl c (part_blocks w c n) m)) in
      tree_forked sigs' e i p (replace w u) y
      ∙ ap (λ (a : Tree). noded e p a (shape_tree sigs' y)) ih
      ∙ sym (step e p (replace w u) y (shape_tree sigs x) z (sym ih))
      ∙ ap (λ (a : Tree). f (noded e p (shape_tree sigs x) a)) other
      ∙ ap f (sym (tree_forked sigs e i p x y))

-- the walk by a block's own signature reaches its chain: on the other side of each node the bit is another
pub found : {F s h : ℕ} {cs : List ℕ} (sigs L : List ℕ) (path : List Edge) {t : Shape} (w : Way F s (tip h cs) t) → Placed F sigs L path t
    → (c : ℕ) → Memᴰ c (blocks t) → signature_of sigs c ≡ s → Memᴰ c (h ∷ cs)
found sigs L path (here e) pl c m y = subst (λ (x : Shape). Memᴰ c (blocks x)) e m
found {F} {s} {h} {cs} sigs L path (down {i = i} {p = p} {x = x} e o z w) pl c m y =
    let both = sides_placed 0 L F sigs path e i p x o (edge_small F s p z) pl in
    go both (λ n. found sigs L (edge p e ∷ path) w both.0 c n y) (which_side blocks x o e m)
  where
    go : Placed F sigs L (edge p e ∷ path) x × Placed F sigs L (edge p (1 - e) ∷ path) o → (Memᴰ c (blocks x) → Memᴰ c (h ∷ cs)) → Memᴰ c (blocks x) ⊎ Memᴰ c (blocks o) → Memᴰ c (h ∷ cs)
    go both f (inl n) = f n
    go both f (inr n) =
        let a : bit_at F (signature_of sigs c) p ≡ 1 - e = (blocks_placed 0 L F sigs (edge p (1 - e) ∷ path) o both.1 c n).1.0 in
        let b : bit_at F s p ≡ 1 - e = subst (λ (x : ℕ). bit_at F x p ≡ 1 - e) y a in
        absurd (omega (arith, sym z ∙ b))

-- the walk to a leaf ends at its spot
pub spot_from_spot : (B : ℕ) {F s : ℕ} (L : List ℕ) {h : ℕ} {cs : List ℕ} {t : Shape} (w : Way F s (tip h cs) t) (n at : ℕ) → Holds B L (word L at) t → depth t ≤ n → spot_from B F L s n at ≡ spot B at w
unfolding spot_from
spot_from_spot B L (here e) zero at q d = refl
spot_from_spot B L (here e) (suc n) at q d =
    let q' = subst (Holds B L (word L at)) e q in
    let a = q'.0 in
    let c = q'.2 in
    rw (le-leb (word L at) B (omega arith), spot_from)
spot_from_spot B L (down {i = i} {p = p} {x = x} e o z w) zero at q d = absurd (omega (arith, depth_forked e i p x o))
spot_from_spot B {F} {s} L (down {i = i} {p = p} {x = x} e o z w) (suc n) at q d =
    let a = q.0 in
    let b = q.1 in
    let e' : word L at - B ≡ i = omega arith in
    rw (lt-leb (word L at) B (omega arith), spot_from, e', q.3, z)
    (spot_from_spot B L w n (side_at B i e) (sides_held B L e i p x o (word L at) (edge_small F s p z) q).0 (omega (arith, depth_forked e i p x o)))
