-- Laws of the walk that collects the heads: sound tables can be walked, and at a node the heads of the left side are followed by those
-- of the right.
-- Assumes nothing.
use Prim.Native.Nat.{ℕ, zero, suc, ◌+◌, ◌-◌, ◌*◌, ◌≤◌, ◌<◌}
use native.Mathlib.Omega.{arith}
use mathlib.Core.Path.{◌≡◌, refl, sym, ◌∙◌, ap, ap₂}
use mathlib.Core.Logic.{inl, inr}
use mathlib.Core.List.{List, [], ◌∷◌, ◌++◌, append-nil, append_assoc}
use lib.ListN.{length, take, drop, length-append, length-drop, drop_of_length-le}
use lib.Seq.{sets, sets-eq, length-sets, take_all, drop-drop}
use borrow.Author.Tests.{ne_eqb, le-leb, lt-leb}
use Rattle.model.specs.Tables.{width_of, root_of, left_of, right_of}
use Rattle.model.specs.Sound.{Shape, tip, fork, Holds, Rooted, none, some, HoldsRoot, PlacedRoot, Sound}
use Rattle.model.specs.Rebuild.{heads_from}
use Rattle.model.proofs.Stores.{sets_append}
use Rattle.tables.proofs.Trees.{depth, depth_root}
use Rattle.rebuild.specs.Walkable.{Walkable}

-- a leaf
pub heads_leaf : (B : ℕ) (L : List ℕ) (n r : ℕ) → (r ≡ 0 → ⊥) → r ≤ B → heads_from B L n r ≡ r ∷ []
unfolding heads_from
heads_leaf B L zero r z h = rw (ne_eqb r 0 z, heads_from)
heads_leaf B L (suc n) r z h = rw (ne_eqb r 0 z, heads_from, le-leb r B h)

-- a walk that goes on
pub record Onward (B : ℕ) (L : List ℕ) (n r : ℕ) : Type 0 where
  pub more : 1 ≤ n
  pub inside : r < 2 * B
  pub left : Walkable B L (n - 1) (left_of B L (r - B))
  pub right : Walkable B L (n - 1) (right_of B L (r - B))
  pub heads : heads_from B L n r ≡ heads_from B L (n - 1) (left_of B L (r - B)) ++ heads_from B L (n - 1) (right_of B L (r - B))

pub walk_on : (B : ℕ) (L : List ℕ) (n r : ℕ) → Walkable B L n r → B < r → Onward B L n r
unfolding heads_from
walk_on B L zero r w h = absurd (omega arith)
walk_on B L (suc n) r (inl w) h = absurd (omega arith)
walk_on B L (suc n) r (inr w) h =
    let e : suc n - 1 ≡ n = omega arith in
    record {
      more = omega arith;
      inside = w.0;
      left = rw e w.1;
      right = rw e w.2;
      heads = rw (e, ne_eqb r 0 (omega arith), heads_from, lt-leb r B h) refl;
    }

-- a shape can be walked
shape_walk : (B : ℕ) (L : List ℕ) (t : Shape) (n r : ℕ) → Holds B L r t → depth t ≤ n → Walkable B L n r
shape_walk B L (tip h cs) zero r q d = let a = q.0 in let b = q.2 in omega arith
shape_walk B L (tip h cs) (suc n) r q d = let a = q.0 in let b = q.2 in inl (omega arith)
shape_walk B L (fork i p l k) zero r q d = absurd (omega arith)
shape_walk B L (fork i p l k) (suc n) r q d =
    let a = q.0 in
    let b = q.2 in
    let e : r - B ≡ i = omega arith in
    inr (omega arith, rw e (shape_walk B L l n (left_of B L i) q.4 (omega arith)), rw e (shape_walk B L k n (right_of B L i) q.5 (omega arith)))

none_walk : (B : ℕ) (L : List ℕ) (n r : ℕ) → r ≡ 0 → Walkable B L n r
none_walk B L zero r e = omega arith
none_walk B L (suc n) r e = inl (omega arith)

pub sound_walk : (sigs links : List ℕ) → Sound sigs links → Walkable (length sigs) links (width_of links) (root_of links)
sound_walk sigs links S = go S.tree S.holds S.placed
  where
    go : (t : Rooted) → HoldsRoot (length sigs) links (root_of links) t → PlacedRoot (width_of links) sigs links t → Walkable (length sigs) links (width_of links) (root_of links)
    go none q pl = none_walk (length sigs) links (width_of links) (root_of links) q
    go (some t) q pl = shape_walk (length sigs) links t (width_of links) (root_of links) q (depth_root (width_of links) sigs links t pl)

-- how many heads a node has
pub onward_count : (B : ℕ) (L : List ℕ) (n r : ℕ) → Onward B L n r
    → length (heads_from B L n r) ≡ length (heads_from B L (n - 1) (left_of B L (r - B))) + length (heads_from B L (n - 1) (right_of B L (r - B)))
onward_count B L n r K = ap length K.heads ∙ length-append (heads_from B L (n - 1) (left_of B L (r - B))) (heads_from B L (n - 1) (right_of B L (r - B)))

-- what is written at the front of the rest of a list
pub sets_rest : (l vs : List ℕ) (m : ℕ) → m + length vs ≤ length l → take m l ++ (sets (take (length l - m) (drop m l)) 0 vs ++ drop (length l - m) (drop m l)) ≡ sets l m vs
sets_rest l vs m h =
    let n = length-drop m l in
    let whole : take (length l - m) (drop m l) ≡ drop m l = take_all (length l - m) (drop m l) (omega arith) in
    let none : drop (length l - m) (drop m l) ≡ [] = drop_of_length-le (drop m l) {i = length l - m} (omega arith) in
    let e : m + (0 + length vs) ≡ m + length vs = omega arith in
    let front : sets (drop m l) 0 vs ≡ vs ++ drop (m + length vs) l = sets-eq vs (drop m l) 0 (omega arith) ∙ ap (λ (z : List ℕ). vs ++ z) (drop-drop (0 + length vs) m l ∙ ap (λ (k : ℕ). drop k l) e) in
    rw (whole, none, front) (ap (λ (z : List ℕ). take m l ++ z) (append-nil (vs ++ drop (m + length vs) l)) ∙ sym (append_assoc (take m l) vs (drop (m + length vs) l)) ∙ sym (sets-eq vs l m h))

-- what the two sides of a node leave: the right one's heads stand in the rest of the list
pub onward_end : (B : ℕ) (L : List ℕ) (n r : ℕ) → Onward B L n r → (l l1 l2 : List ℕ) (m k x y : ℕ) → x ≡ left_of B L (r - B) → y ≡ right_of B L (r - B)
    → length (heads_from B L n r) ≤ length l
    → m ≡ length (heads_from B L (n - 1) x) → l1 ≡ sets l 0 (heads_from B L (n - 1) x)
    → k ≡ length (heads_from B L (n - 1) y) → l2 ≡ sets (take (length l1 - m) (drop m l1)) 0 (heads_from B L (n - 1) y)
    → (m + k ≡ length (heads_from B L n r)) × (take m l1 ++ (l2 ++ drop (length l1 - m) (drop m l1)) ≡ sets l 0 (heads_from B L n r))
onward_end B L n r K l l1 l2 m k x y ex ey room a b c d =
    let hl : List ℕ = heads_from B L (n - 1) (left_of B L (r - B)) in
    let hr : List ℕ = heads_from B L (n - 1) (right_of B L (r - B)) in
    let el : heads_from B L (n - 1) x ≡ hl = ap (heads_from B L (n - 1)) ex in
    let er : heads_from B L (n - 1) y ≡ hr = ap (heads_from B L (n - 1)) ey in
    let whole = onward_count B L n r K in
    let ml : m ≡ 0 + length hl = omega (arith, ap length el) in
    let kr : k ≡ length hr = c ∙ ap length er in
    let long : length l1 ≡ length l = ap length b ∙ length-sets l 0 (heads_from B L (n - 1) x) in
    let first : l1 ≡ sets l 0 hl = b ∙ ap (sets l 0) el in
    let second : l2 ≡ sets (take (length l1 - m) (drop m l1)) 0 hr = d ∙ ap (sets (take (length l1 - m) (drop m l1)) 0) er in (
      omega arith,
      ap (λ (z : List ℕ). take m l1 ++ (z ++ drop (length l1 - m) (drop m l1))) second
          ∙ sets_rest l1 hr m (omega arith)
          ∙ ap₂ (λ (z : List ℕ) (i : ℕ). sets z i hr) first ml
          ∙ sym (sets_append l 0 hl hr)
          ∙ ap (sets l 0) (sym K.heads),
    )
