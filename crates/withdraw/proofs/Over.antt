-- The node over the part that a way leads to, seen from the part's side e: the definition's walk to the parent ends at it, since the
-- part's reference is the first on the way that is no node.
-- Assumes nothing.
use Prim.Native.Nat.{ℕ, zero, suc, ◌-◌, ◌≤◌, ◌<◌}
use native.Mathlib.Omega.{arith}
use mathlib.Core.Path.{◌≡◌, refl, ap, subst}
use mathlib.Core.Logic.{◌⊎◌, inl, inr}
use mathlib.Core.List.{List}
use borrow.Author.Tests.{le-leb, lt-leb}
use Rattle.model.specs.Signature.{bit_at}
use Rattle.model.specs.Tables.{word, side_at, side_of}
use Rattle.model.specs.Sound.{Shape, Holds}
use Rattle.model.specs.Withdraw.{parent_from}
use Rattle.tables.proofs.Trees.{depth}
use Rattle.tables.proofs.Sides.{forked, edge_small, sides_held}
use Rattle.tables.proofs.Ways.{Way, here, down, spot, depth_forked}

-- the part v is side e of a node with this sibling
pub record Over (F s : ℕ) (v t : Shape) : Type 0 where
  pub number : ℕ
  pub position : ℕ
  pub side : ℕ
  pub sibling : Shape
  pub bit : bit_at F s position ≡ side
  pub way : Way F s (forked side number position v sibling) t

-- unless it is the whole shape
pub over : {F s : ℕ} {v t : Shape} → Way F s v t → (t ≡ v) ⊎ Over F s v t
over (here e) = inl e
over {F} {s} {v} (down {i = i} {p = p} {x = x} e o z w) = inr (go (over w))
  where
    go : (x ≡ v) ⊎ Over F s v x → Over F s v (forked e i p x o)
    go (inl y) = record { number = i; position = p; side = e; sibling = o; bit = z; way = here (ap (λ (u : Shape). forked e i p u o) y) }
    go (inr P) = record { number = P.number; position = P.position; side = P.side; sibling = P.sibling; bit = P.bit; way = down e o z P.way }

module _ (B : ℕ) (L : List ℕ) {F s i p : ℕ} (d : ℕ) (v y : Shape) where
  -- a shape with a node below it is no leaf
  pub node_reference : {t : Shape} (r : ℕ) → Way F s (forked d i p v y) t → Holds B L r t → B < r
  node_reference r (here e) q = let x = subst (Holds B L r) e q in let a = x.0 in let b = x.1 in omega arith
  node_reference r (down e o z w) q = let a = q.0 in let b = q.1 in omega arith

  pub parent_from_spot : {t : Shape} (w : Way F s (forked d i p v y) t) (n at : ℕ) → bit_at F s p ≡ d → Holds B L (word L at) t → depth t ≤ n
      → side_of B L i d ≤ B → parent_from B F L s n at ≡ spot B at w
  unfolding parent_from
  parent_from_spot (here e) zero at z q l h = refl
  parent_from_spot (here e) (suc n) at z q l h =
      let x = subst (Holds B L (word L at)) e q in
      let a = x.0 in
      let e' : word L at - B ≡ i = omega arith in
      rw (e', x.3, z, le-leb (side_of B L i d) B h, parent_from)
  parent_from_spot (down {i = j} {p = o} {x = x} e u z' w) zero at z q l h = absurd (omega (arith, depth_forked e j o x u))
  parent_from_spot (down {i = j} {p = o} {x = x} e u z' w) (suc n) at z q l h =
      let a = q.0 in
      let e' : word L at - B ≡ j = omega arith in
      let below = (sides_held B L e j o x u (word L at) (edge_small F s o z') q).0 in
      rw (e', q.3, z', lt-leb (side_of B L j e) B (node_reference (side_of B L j e) w below), parent_from, e', q.3, z')
      (parent_from_spot w n (side_at B j e) z below (omega (arith, depth_forked e j o x u)) h)
