-- The plan that the code makes, a law for each of its returns, by what is read: the tests that led there are the definition's tests, and
-- on sound tables no check fails.
-- Assumes nothing.
use Prim.Native.Nat.{ℕ, zero, suc, ◌+◌, ◌-◌, ◌^◌, ◌≤◌, ◌<◌}
use native.Mathlib.Omega.{arith}
use mathlib.Core.Path.{◌≡◌, refl, sym, ◌∙◌, ap}
use mathlib.Core.Logic.{◌⊎◌, inl, inr, ◌≢◌}
use mathlib.Core.List.Memᴰ
use mathlib.Core.List.{List, [], ◌∷◌, Memᴰ}
use lib.ListN.{length, get_or}
use borrow.Author.Tests.{eq-eqb, ne_eqb, le-leb, lt-leb}
use Rattle.std.specs.Prelude.{Option, None, Some}
use Rattle.model.specs.Signature.{bit_at}
use Rattle.model.specs.Tables.{word, width_of, root_of, free_of, count_of, next_of, position_of, side_at, side_of, signature_of}
use Rattle.model.specs.Sound.{Chain, FreeChain, Sound}
use Rattle.model.specs.Stores.{◌↤◌}
use Rattle.model.specs.File.{spot_of}
use Rattle.model.specs.Packed.{part_in}
use Rattle.model.proofs.Bits.{bit_below}
use Rattle.model.specs.Withdraw.{parent_of, withdrawal_stores, unlink_stores, withdraw_stores}
use Rattle.tables.specs.declared.packed.Tables.{Tables}
use Rattle.tables.specs.declared.place.Place.{Place}
use Rattle.tables.specs.declared.place.Place.TheVariants.{Root, Below}
use Rattle.tables.specs.declared.side.Side.{Side}
use Rattle.tables.specs.declared.walk.Parent.{Parent}
use Rattle.tables.specs.declared.walk.Walked.{Walked}
use Rattle.tables.specs.Places.{address_of}
use Rattle.tables.specs.Sides.{side_number}
use Rattle.tables.specs.Walk.{Ends, HeldBy, below_at}
use Rattle.tables.specs.Walked.{parent_at, parent_node}
use Rattle.tables.proofs.Counts.{filed_one}
use Rattle.tables.proofs.Edges.{side_at_is}
use Rattle.tables.proofs.Lending.{side_small}
use Rattle.tables.proofs.Walks.{sound_fits}
use Rattle.tables.specs.Held.{blocks_held, held}
use Rattle.withdraw.specs.Asking.{Passed}
use Rattle.withdraw.specs.Plan.{Plans, PlansChain, PlansRaise, PlansHead, PlansRight, stores_of}
use Rattle.withdraw.specs.declared.plan.Plan.{Plan}
use Rattle.withdraw.specs.declared.plan.Plan.TheVariants.{Unlink, Lead, Raise}
use Rattle.withdraw.proofs.Found.{Found, found_chain}

pub some_place : (B : ℕ) (place : Place) → address_of B place ≢ 0
some_place B Root = omega arith
some_place B (Below node side) = omega arith

-- the block before b leads on past it
pub unlinks : (B : ℕ) (L : List ℕ) (b c d x : ℕ) → c ≡ d → x ≡ next_of L b → Plans B L b (Some (Unlink c x)) (unlink_stores L b d)
unlinks B L b c d x e f = rw (← e, f) (record { is = refl; does = refl })

-- the side on which the reference reached stands is that of the bit at its parent's position
pub side_taken : (B F : ℕ) (L : List ℕ) (s i j : ℕ) (side : Side) → 1 ≤ i → side_at B j (side_number side) ≡ below_at B F L s i → side_number side ≡ bit_at F s (position_of B L i)
side_taken B F L s zero j side h e = absurd (omega arith)
side_taken B F L s (suc i) j side h e = omega (arith, e, side_small side, bit_below F s (position_of B L (suc i)))

-- the parent is a node, this side of it leads to the leaf, and r is on the other
module _ (t : Tables) (parent : Parent) (holds : word (held t) (address_of (blocks_held t) parent.place) ≡ blocks_held t + parent.node) (from : 1 ≤ parent.node) (to : parent.node < blocks_held t)
    (F b s : ℕ) (side : Side) (is_side : side_number side ≡ bit_at F s (position_of (blocks_held t) (held t) parent.node)) where
  pub raises : (w : ℕ) → w ≡ get_or t.nodes.now (parent.node - 1) 0 → (r o f : ℕ) → r ≡ part_in w (1 + o) → o ≡ 1 - side_number side
      → PlansRaise (blocks_held t) F (held t) b s (address_of (blocks_held t) parent.place) (Some (Raise (record { node = parent.node; above = parent.place; sibling = r; free = f })))
  raises w is_w r o f is_r is_o l h =
      let node : parent.node ≡ word (held t) (address_of (blocks_held t) parent.place) - blocks_held t = omega (arith, holds) in
      let z : r ≡ side_of (blocks_held t) (held t) parent.node (1 - side_number side) =
      is_r ∙ side_at_is (blocks_held t) 0 t.rows.links.now t.nodes.now t.fits.packs 0 parent.node w o from to is_w (omega (arith, is_o)) ∙ ap (side_of (blocks_held t) (held t) parent.node) is_o in
      rw (← node, ← is_side, z) (record { is = refl; does = refl })

-- b is the head of its chain, and x the block after it
module _ (B F : ℕ) (L : List ℕ) (b s : ℕ) (place : Place) (x : ℕ) (e : x ≡ next_of L b) where
  pub head_goes_on : (above : ℕ) → x ≢ 0 → PlansHead B F L b s (address_of B place) above (Some (Lead place x))
  unfolding withdraw_stores
  head_goes_on above n top = rw (eq-eqb b b refl, withdraw_stores, ← e, ne_eqb x 0 n) (record { is = refl; does = ap (λ (y : ℕ). withdrawal_stores L b ((address_of B place ↤ y) ∷ [])) e })

  module _ (n : x ≡ 0) where
    last : next_of L b ≡ 0
    last = sym e ∙ n

    pub head_last : (parent : Option Parent) → parent ≡ None → PlansHead B F L b s (address_of B place) (parent_at B parent) (Some (Lead Root 0))
    unfolding withdraw_stores
    head_last parent z (inl t) = rw (eq-eqb b b refl, withdraw_stores, eq-eqb (next_of L b) 0 last, le-leb (root_of L) B t.0) (record { is = refl; does = refl })
    head_last parent z (inr P) = absurd (P.some (ap (parent_at B) z))

    pub head_raises : (parent : Option Parent) (r : Parent) → parent ≡ Some r → (p : Option Plan) → PlansRaise B F L b s (address_of B r.place) p → PlansHead B F L b s (address_of B place) (parent_at B parent) p
    unfolding withdraw_stores
    head_raises parent r z p f (inl t) = absurd (some_place B r.place (sym (ap (parent_at B) z) ∙ t.1))
    head_raises parent r z p f (inr P) =
        let a : address_of B r.place ≡ parent_of B F L s = sym (ap (parent_at B) z) ∙ P.parent in
        rw (eq-eqb b b refl, withdraw_stores, eq-eqb (next_of L b) 0 last, lt-leb (root_of L) B P.root, ← a) (f (rw (ap (parent_at B) z) at P.node) (rw (ap (parent_at B) z) at P.fit))

-- on sound tables a next word is a block or 0, and so is the first free node
chain_next : (B : ℕ) (L : List ℕ) (h : ℕ) (cs : List ℕ) (c : ℕ) → Chain B L h cs → Memᴰ c (h ∷ cs) → next_of L c ≤ B
chain_next B L h [] c q m = go (Memᴰ.cases_cons m)
  where
    go : (c ≡ h) ⊎ Memᴰ c [] → next_of L c ≤ B
    go (inl e) = rw e (omega arith)
    go (inr n) = absurd (Memᴰ.not-nil n)
chain_next B L h (d ∷ ds) c q m = go (Memᴰ.cases_cons m) (λ n. chain_next B L d ds c q.3 n)
  where
    go : (c ≡ h) ⊎ Memᴰ c (d ∷ ds) → (Memᴰ c (d ∷ ds) → next_of L c ≤ B) → next_of L c ≤ B
    go (inl e) ih = let x = q.0 in let y = q.2 in rw e (omega arith)
    go (inr n) ih = ih n

free_next : (B : ℕ) (L : List ℕ) (r : ℕ) (f : List ℕ) → FreeChain B L r f → r ≤ B
free_next B L r [] q = omega arith
free_next B L r (i ∷ is) q = let x = q.0 in let y = q.2 in omega arith

-- and by where the walk ends there is a block to withdraw, and its chain is found
module _ (sigs L : List ℕ) (b : ℕ) (A : Passed (length sigs) L b) where
  module _ (S : Sound sigs L) where
    C : Found (length sigs) (width_of L) sigs L b
    C = found_chain S b A.from A.to (omega (arith, S.filed_bit b A.from A.to, A.filed))

  pub some_filed : count_of L ≡ 0 → PlansRight sigs L b None
  some_filed z S = absurd (omega (arith, S.counted, filed_one L b (length sigs) A.from A.to, A.filed))

  pub free_small : 2 ^ 17 ≤ free_of L → PlansRight sigs L b None
  free_small h S = absurd (omega (arith, free_next (length sigs) L (free_of L) S.free S.free_holds, S.fits.blocks_to))

  pub next_small : 2 ^ 17 ≤ next_of L b → PlansRight sigs L b None
  next_small h S = absurd (omega (arith, chain_next (length sigs) L (C S).head (C S).others b (C S).chain (C S).meets, S.fits.blocks_to))

  module _ (s F : ℕ) (is_s : s ≡ signature_of sigs b) (is_F : F ≡ width_of L) where
    pub walk_lost : (above : ℕ) → Ends (length sigs) F L s 0 above → PlansRight sigs L b None
    walk_lost above E S = absurd (E.fit (rw (← is_F) at (sound_fits S s)) refl)

    module _ (w : Walked) (E : Ends (length sigs) F L s (address_of (length sigs) w.place) (parent_at (length sigs) w.parent))
        (H : HeldBy (length sigs) L (address_of (length sigs) w.place) (parent_at (length sigs) w.parent) w.reference (parent_node w.parent)) where
      here : word L (address_of (length sigs) w.place) ≡ w.reference
      here = sym (H.here (some_place (length sigs) w.place))

      at : address_of (length sigs) w.place ≡ spot_of (length sigs) (width_of L) L (signature_of sigs b)
      at = rw (← is_s, ← is_F) (E.spot (some_place (length sigs) w.place))

      pub plans_head : (p : Option Plan) → w.reference ≡ b → PlansHead (length sigs) F L b s (address_of (length sigs) w.place) (parent_at (length sigs) w.parent) p → PlansRight sigs L b p
      plans_head p e f S =
          let e' : word L (spot_of (length sigs) (width_of L) L (signature_of sigs b)) ≡ b = ap (word L) (sym at) ∙ here ∙ e in
          rw (e', ← at, ← is_s, ← is_F) (f (E.top (some_place (length sigs) w.place) (omega (arith, here, e, A.to))))

      pub plans_chain : (p : Option Plan) → w.reference ≢ b → PlansChain (length sigs) L b w.reference p → PlansRight sigs L b p
      unfolding withdraw_stores
      plans_chain p n f S = go (Memᴰ.cases_cons (C S).meets)
        where
          head : w.reference ≡ (C S).head
          head = sym here ∙ ap (word L) at ∙ (C S).reference

          go : (b ≡ (C S).head) ⊎ Memᴰ b (C S).others → Plans (length sigs) L b p (stores_of sigs L b)
          go (inl e) = absurd (n (head ∙ sym e))
          go (inr m) =
              rw ((C S).reference, withdraw_stores, ne_eqb (C S).head b (λ z. n (head ∙ z)))
              (rw (ap (word L) (sym at) ∙ here) (f (C S).others (rw head (C S).from) (rw head (C S).to) (rw head (C S).chain) m))
