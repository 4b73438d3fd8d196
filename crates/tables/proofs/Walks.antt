-- The walk by a signature's bits, a step at a time: what is left of it ends where the whole walk ends. The definition of the parent looks
-- one node ahead, so it is followed from the node above.
-- Assumes nothing.
use Prim.Native.Nat.{ℕ, zero, suc, ◌-◌, ◌≤◌, ◌<◌}
use native.Mathlib.Omega.{arith}
use mathlib.Core.Path.{◌≡◌, refl, sym, ◌∙◌, ap, subst}
use mathlib.Core.Logic.{◌⊎◌, inl, inr, ◌≢◌}
use mathlib.Core.List.{List, [], ◌∷◌}
use borrow.Author.Tests.{le-leb, lt-leb}
use Rattle.model.specs.Signature.{bit_at}
use Rattle.model.specs.Tree.{Edge, edge}
use Rattle.model.specs.Tables.{word, root_at, root_of, side_at}
use Rattle.model.specs.Sound.{Shape, tip, fork, Rooted, none, some, Holds, HoldsRoot, Placed, PlacedRoot, SoundAt}
use Rattle.model.specs.File.{edge_at, spot_from, spot_of}
use Rattle.model.specs.Withdraw.{parent_from, parent_of}
use Rattle.model.proofs.Bits.{bit_cases}
use Rattle.tables.specs.Walk.{NodeFits, WalkFits, Parent, Ends}

module _ (B F : ℕ) (links : List ℕ) (s : ℕ) where
  spot_none : (n at : ℕ) → n ≤ 0 → spot_from B F links s n at ≡ at
  unfolding spot_from
  spot_none zero at h = refl
  spot_none (suc n) at h = absurd (omega arith)

  pub spot_leaf : (n at : ℕ) → word links at ≤ B → spot_from B F links s n at ≡ at
  unfolding spot_from
  spot_leaf zero at h = refl
  spot_leaf (suc n) at h = rw (le-leb (word links at) B h, spot_from)

  spot_node : (n at x : ℕ) → B < word links at → x ≡ edge_at B F links s (word links at - B) → spot_from B F links s (suc n) at ≡ spot_from B F links s n x
  unfolding spot_from
  spot_node n at x h e = rw (lt-leb (word links at) B h, spot_from, e)

  -- x is the address after at
  parent_leaf : (n at x : ℕ) → x ≡ edge_at B F links s (word links at - B) → word links x ≤ B → parent_from B F links s (suc n) at ≡ at
  unfolding parent_from
  parent_leaf n at x e h = let h' : word links (edge_at B F links s (word links at - B)) ≤ B = rw (← e) h in rw (le-leb _ B h', parent_from)

  parent_node : (n at x : ℕ) → x ≡ edge_at B F links s (word links at - B) → B < word links x → parent_from B F links s (suc n) at ≡ parent_from B F links s n x
  unfolding parent_from
  parent_node n at x e h = let h' : B < word links (edge_at B F links s (word links at - B)) = rw (← e) h in rw (lt-leb _ B h', parent_from, e)

  -- the node above link, with n nodes left after it
  pub record Above (n link above : ℕ) : Type 0 where
    pub some : above ≢ 0
    pub node : B < word links above
    pub fit : NodeFits B F links (word links above - B)
    pub root : B < root_of links
    pub next : link ≡ edge_at B F links s (word links above - B)
    pub parent : parent_of B F links s ≡ parent_from B F links s (suc n) above

  -- the walk at address link, with n nodes left
  pub record Walking (n link above : ℕ) : Type 0 where
    pub some : link ≢ 0
    pub fit : WalkFits B F links s F root_at → WalkFits B F links s n link
    pub spot : spot_of B F links s ≡ spot_from B F links s n link
    pub top : ((n ≡ F) × (link ≡ root_at) × (above ≡ 0)) ⊎ Above n link above

  pub walk_starts : Walking F root_at 0
  walk_starts = record { some = omega arith; fit = λ f. f; spot = refl; top = inl (refl, refl, refl) }

  -- an edge is taken
  stepped : (n link above x : ℕ) → Walking (suc n) link above → B < word links link → NodeFits B F links (word links link - B) → x ≡ edge_at B F links s (word links link - B) → Walking n x link
  stepped n link above x W h f e = record {
    some = omega arith;
    fit = λ g. subst (WalkFits B F links s n) (sym e) (on (W.fit g));
    spot = W.spot ∙ spot_node n link x h e;
    top = inr (up W.top);
  }
    where
      on : WalkFits B F links s (suc n) link → WalkFits B F links s n (edge_at B F links s (word links link - B))
      on (inl l) = absurd (omega arith)
      on (inr g) = g.1

      up : ((suc n ≡ F) × (link ≡ root_at) × (above ≡ 0)) ⊎ Above (suc n) link above → Above n x link
      up (inl t) = record {
        some = W.some;
        node = h;
        fit = f;
        root = subst (λ (a : ℕ). B < word links a) t.1 h;
        next = e;
        parent = subst (λ (m : ℕ). parent_of B F links s ≡ parent_from B F links s m link) (sym t.0) (ap (parent_from B F links s F) (sym t.1));
      }
      up (inr A) = record { some = W.some; node = h; fit = f; root = A.root; next = e; parent = A.parent ∙ parent_node (suc n) above link A.next h }

  pub walk_steps : (n link above x r : ℕ) → r ≡ word links link → 0 < n → Walking n link above → B < r → NodeFits B F links (r - B) → x ≡ edge_at B F links s (r - B) → Walking (n - 1) x link
  walk_steps zero link above x r w h W l f e = absurd (omega arith)
  walk_steps (suc n) link above x r w h W l f e = let d : suc n - 1 ≡ n = omega arith in rw d (stepped n link above x W (rw (← w) l) (rw (← w) f) (rw (← w) e))

  -- it ends: at a reference that is no node, or with no node left
  pub walk_ends : (n link above : ℕ) → Walking n link above → (word links link ≤ B) ⊎ (n ≤ 0) → Ends B F links s link above
  walk_ends n link above W d = record { fit = λ _. W.some; spot = λ _. sym (W.spot ∙ at d); top = λ _ h. over h W.top }
    where
      at : (word links link ≤ B) ⊎ (n ≤ 0) → spot_from B F links s n link ≡ link
      at (inl h) = spot_leaf n link h
      at (inr h) = spot_none n link h

      over : word links link ≤ B → ((n ≡ F) × (link ≡ root_at) × (above ≡ 0)) ⊎ Above n link above → ((root_of links ≤ B) × (above ≡ 0)) ⊎ Parent B F links s above
      over h (inl t) = inl (subst (λ (a : ℕ). word links a ≤ B) t.1 h, t.2)
      over h (inr A) = inr (record { some = A.some; node = A.node; fit = A.fit; root = A.root; parent = sym (A.parent ∙ parent_leaf n above link A.next h) })

  -- or at an unfit node
  pub walk_fails : (n link above r : ℕ) → r ≡ word links link → 0 < n → Walking n link above → B < r → (NodeFits B F links (r - B) → ⊥) → Ends B F links s 0 0
  walk_fails n link above r w z W h f = record { fit = λ g. absurd (no n z (W.fit g)); spot = λ x. absurd (x refl); top = λ x. absurd (x refl) }
    where
      no : (m : ℕ) → 0 < m → WalkFits B F links s m link → ⊥
      no zero l g = omega arith
      no (suc m) l (inl x) = omega arith
      no (suc m) l (inr g) = f (rw w g.0)

  -- the nodes of a placed shape are fit, and so is the walk through it
  pub walk_fits : (sigs : List ℕ) (path : List Edge) (t : Shape) (n at : ℕ) → Holds B links (word links at) t → Placed F sigs links path t → WalkFits B F links s n at
  walk_fits sigs path t zero at q pl = tt
  walk_fits sigs path (tip h cs) (suc n) at q pl = let a = q.0 in let b = q.2 in inl (omega arith)
  walk_fits sigs path (fork i p l k) (suc n) at q pl =
      let a = q.0 in
      let e : word links at - B ≡ i = omega arith in
      let f : NodeFits B F links i = (q.2, subst (λ (x : ℕ). 1 ≤ x) (sym q.3) pl.0, subst (λ (x : ℕ). x ≤ F) (sym q.3) pl.1) in
      inr (subst (λ (x : ℕ). NodeFits B F links x × WalkFits B F links s n (edge_at B F links s x)) (sym e) (f, rw q.3 (go (bit_cases F s p) (walk_fits sigs (edge p 0 ∷ path) l n (side_at B i 0) q.4 pl.3) (walk_fits sigs (edge p 1 ∷ path) k n (side_at B i 1) q.5 pl.4))))
    where
      go : (bit_at F s p ≡ 0) ⊎ (bit_at F s p ≡ 1) → WalkFits B F links s n (side_at B i 0) → WalkFits B F links s n (side_at B i 1) → WalkFits B F links s n (side_at B i (bit_at F s p))
      go (inl e) x y = subst (λ (d : ℕ). WalkFits B F links s n (side_at B i d)) (sym e) x
      go (inr e) x y = subst (λ (d : ℕ). WalkFits B F links s n (side_at B i d)) (sym e) y

-- on sound tables every walk is fit
pub sound_fits : {B F : ℕ} {sigs links : List ℕ} → SoundAt B F sigs links → (s : ℕ) → WalkFits B F links s F root_at
sound_fits {B} {F} {sigs} {links} S s = go S.tree S.holds S.placed
  where
    at_none : (n : ℕ) → root_of links ≡ 0 → WalkFits B F links s n root_at
    at_none zero e = tt
    at_none (suc n) e = inl (omega arith)

    go : (t : Rooted) → HoldsRoot B links (root_of links) t → PlacedRoot F sigs links t → WalkFits B F links s F root_at
    go none q pl = at_none F q
    go (some t) q pl = walk_fits B F links s sigs [] t F root_at q pl
