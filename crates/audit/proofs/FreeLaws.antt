-- The free chain's walk: its steps as the code takes them, and that it says yes exactly of a free chain of so many nodes.
-- Assumes nothing.
use Prim.Native.Nat.{ℕ, zero, suc, ◌+◌, ◌-◌, ◌≤◌, ◌<◌}
use native.Mathlib.Omega.{arith}
use mathlib.Core.Path.{◌≡◌, refl, sym, ap, subst}
use mathlib.Core.Logic.{◌≢◌}
use mathlib.Core.Bool.{Bool, true, false}
use mathlib.Core.List.{List, [], ◌∷◌}
use lib.Dec.{eqb, leb}
use lib.ListN.{length}
use borrow.Author.Tests.{eq-eqb, ne_eqb, lt-leb, eqb-true, eqb-false, leb-false}
use Rattle.std.specs.Prelude.{None, Some}
use Rattle.model.specs.Basics.{pick}
use Rattle.model.specs.Tables.{position_of, left_of, right_of}
use Rattle.model.specs.Sound.{FreeChain}
use Rattle.audit.specs.Audit.{free_ok, after_free, free_twin}
use Rattle.model.proofs.Picks.{pick_false, pick_true}
use Rattle.audit.proofs.ChainLaws.{no_some}

-- a node on the free chain
record FreeIs (L : List ℕ) (B r : ℕ) : Type 0 where
  from : 1 ≤ r
  below : r < B
  position : position_of B L r ≡ 0
  right : right_of B L r ≡ 0

module _ (L : List ℕ) (B r : ℕ) where
  free_is : free_ok L B r ≡ true → FreeIs L B r
  unfolding free_ok
  free_is e =
      let p1 = pick_false (eqb r 0) _ e in
      let p2 = pick_false (leb B r) _ p1.1 in
      let p3 = pick_true (eqb (position_of B L r) 0) _ p2.1 in
      let nz : r ≢ 0 = eqb-false r 0 p1.0 in
      record { from = omega arith; below = leb-false B r p2.0; position = eqb-true _ _ p3.0; right = eqb-true _ _ p3.1 }

-- the steps of the walk, as the code takes them, with c of n nodes behind it
module _ (L : List ℕ) (B r n c : ℕ) where
  pub free_first : (f : ℕ) → r ≡ f → free_twin n L B f ≡ free_twin (n - 0) L B r
  free_first f e = let z : n - 0 ≡ n = omega arith in rw (z, e)

  pub free_end : n ≤ c → free_twin (n - c) L B r ≡ eqb r 0
  unfolding free_twin
  free_end h = let z : n - c ≡ 0 = omega arith in rw z

  pub free_stop : c < n → None ≡ after_free L B r → free_twin (n - c) L B r ≡ false
  unfolding free_twin
  free_stop h e = let d : n - c ≡ suc (n - (c + 1)) = omega arith in rw d (go (free_ok L B r) e)
    where
      go : (t : Bool) → None ≡ pick t (Some (left_of B L r)) None → pick t (free_twin (n - (c + 1)) L B (left_of B L r)) false ≡ false
      go true e = no_some e
      go false e = refl

  pub free_go : c < n → (x : ℕ) → Some x ≡ after_free L B r → free_twin (n - c) L B r ≡ free_twin (n - (c + 1)) L B x
  unfolding free_twin
  free_go h x e = let d : n - c ≡ suc (n - (c + 1)) = omega arith in rw d (go (free_ok L B r) e)
    where
      go : (t : Bool) → Some x ≡ pick t (Some (left_of B L r)) None → pick t (free_twin (n - (c + 1)) L B (left_of B L r)) false ≡ free_twin (n - (c + 1)) L B x
      go true e = let i : left_of B L r ≡ x = cc in ap (free_twin (n - (c + 1)) L B) i
      go false e = no_some (sym e)

-- a free chain of k nodes from node r
pub record FreeYes (L : List ℕ) (B k r : ℕ) : Type 0 where
  pub list : List ℕ
  pub chain : FreeChain B L r list
  pub long : length list ≡ k

pub free_yes : (L : List ℕ) (B k r : ℕ) → free_twin k L B r ≡ true → FreeYes L B k r
unfolding free_twin
free_yes L B zero r e = record { list = []; chain = eqb-true r 0 e; long = refl }
free_yes L B (suc k) r e =
    let p = pick_true (free_ok L B r) _ e in
    let x = free_is L B r p.0 in
    let y = free_yes L B k (left_of B L r) p.1 in
    record { list = r ∷ y.list; chain = (refl, x.from, x.below, x.position, x.right, y.chain); long = ap suc y.long }

pub free_whole : (L : List ℕ) (B k r : ℕ) (is : List ℕ) → FreeChain B L r is → length is ≡ k → free_twin k L B r ≡ true
unfolding free_twin free_ok
free_whole L B zero r [] q e = eq-eqb r 0 q
free_whole L B (suc k) r [] q e = absurd (omega arith)
free_whole L B zero r (i ∷ is) q e = absurd (omega arith)
free_whole L B (suc k) r (i ∷ is) q e =
    let j : r ≡ i = q.0 in
    let one = q.1 in
    let nz : r ≢ 0 = omega arith in
    let lt : r < B = subst (λ (x : ℕ). x < B) (sym j) q.2 in
    let zp : position_of B L r ≡ 0 = subst (λ (x : ℕ). position_of B L x ≡ 0) (sym j) q.3 in
    let zr : right_of B L r ≡ 0 = subst (λ (x : ℕ). right_of B L x ≡ 0) (sym j) q.4 in
    let ih = free_whole L B k (left_of B L r) is (subst (λ (x : ℕ). FreeChain B L (left_of B L x) is) (sym j) q.5) (omega arith) in
    simp (ne_eqb _ _ nz, lt-leb _ _ lt, eq-eqb _ _ zp, eq-eqb _ _ zr, ih)
