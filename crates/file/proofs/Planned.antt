-- The plan that the code makes, a law for each of its returns, by what is read: on sound tables no check fails, and what is stored is the
-- definition's.
-- Assumes nothing.
use Prim.Native.Nat.{ℕ, ◌-◌, ◌^◌, ◌≤◌, ◌<◌}
use native.Mathlib.Omega.{arith}
use mathlib.Core.Path.{◌≡◌, refl, sym, ◌∙◌, ap, subst}
use mathlib.Core.Logic.{◌≢◌, ◌↔◌}
use mathlib.Core.Bool.{Bool, true, false, ◌&&◌}
use mathlib.Core.List.{List}
use lib.Dec.{eqb, leb, ltb}
use borrow.Author.Tests.{ltb-true, ltb-false}
use Rattle.std.specs.Prelude.{Option, None, Some}
use Rattle.model.specs.Wide.{word_count, number_in}
use Rattle.model.specs.Signature.{bit_at, first_difference}
use Rattle.model.specs.Tables.{word, root_at, width_of, root_of, free_of, count_of, filed_of, signature_of}
use Rattle.model.specs.Sound.{Sound}
use Rattle.model.specs.Stores.{stores}
use Rattle.model.specs.File.{spot_of, split_stores, file_links}
use Rattle.model.proofs.Asking.{in_range, not_in_range}
use Rattle.tables.specs.declared.packed.Tables.{Tables}
use Rattle.tables.specs.declared.place.Place.{Place}
use Rattle.tables.specs.declared.place.Place.TheVariants.{Root, Below}
use Rattle.tables.specs.declared.side.Side.{Side}
use Rattle.tables.specs.declared.walk.Walked.{Walked}
use Rattle.tables.specs.Places.{address_of}
use Rattle.tables.specs.Sides.{side_number}
use Rattle.tables.specs.Walk.{Ends, HeldBy}
use Rattle.tables.specs.Walked.{parent_at, parent_node}
use Rattle.tables.proofs.Edges.{side_of_bit}
use Rattle.tables.proofs.Walks.{spot_leaf, sound_fits}
use Rattle.tables.specs.Held.{signatures_held, blocks_held, held}
use Rattle.file.specs.Asking.{Passed}
use Rattle.file.specs.Plan.{SplitPlan, Plans}
use Rattle.file.specs.declared.plan.Plan.{Plan}
use Rattle.file.specs.declared.plan.Plan.TheVariants.{First, Join, Split}
use Rattle.tables.proofs.Held.{front}
use Rattle.file.proofs.Good.{Fileable}
use Rattle.file.proofs.Cases.{links_first, links_join, links_split, room, at_leaf, spare, some_tree}

-- where the reference reached stands, and where its parent's
abbrev link : Tables → Walked → ℕ
link t w = address_of (blocks_held t) w.place

abbrev above : Tables → Walked → ℕ
above t w = parent_at (blocks_held t) w.parent

some_place : (B : ℕ) (place : Place) → address_of B place ≢ 0
some_place B Root = omega arith
some_place B (Below node side) = omega arith

-- W, by the width as it is read
pub words_read : (t : Tables) (F : ℕ) → F ≡ width_of t.rows.links.now → word_count (width_of (held t)) ≡ word_count F
words_read t F e = ap word_count (sym (front t 0 (omega arith)) ∙ sym e)

-- the split that the code makes: f is the first free node, and F the width, as they are read
module _ (t : Tables) (s : ℕ) (place : Place) (h a f F : ℕ) (is_f : f ≡ free_of t.rows.links.now) (is_F : F ≡ width_of t.rows.links.now) where
  free : f ≡ free_of (held t)
  free = is_f ∙ front t 3 (omega arith)

  width : F ≡ width_of (held t)
  width = is_F ∙ front t 0 (omega arith)

  pub no_node : (n : ℕ) → n ≡ blocks_held t → (leb 1 f && leb f (n - 1)) ≡ false → (p : Option Plan) → SplitPlan (blocks_held t) (width_of (held t)) (held t) s place h a p
  no_node n e z p from to small = not_in_range f (n - 1) z (omega (arith, free)) (omega (arith, free, e))

  pub too_large : ltb a (2 ^ F) ≡ false → (p : Option Plan) → SplitPlan (blocks_held t) (width_of (held t)) (held t) s place h a p
  too_large z p from to small = let g = ltb-false a (2 ^ F) z in absurd (omega (arith, rw (← width) at small))

  module _ (differ : (s < 2 ^ width_of (held t)) × (a ≢ s)) (small : ltb a (2 ^ F) ≡ true) where
    pub differs : (s < 2 ^ F) × (a < 2 ^ F) × (s ≢ a)
    differs = (rw (← width) at differ.0, ltb-true a (2 ^ F) small, λ e. differ.1 (sym e))

    module _ (d : ℕ) (is_d : d ≡ first_difference F s a) where
      -- side leads on the signatures that have the bit of s at position d
      module _ (set : Bool) (side : Side) (is_set : set ≡ eqb (bit_at F s d) 1) (is_side : (side_number side ≡ 1) ↔ (set ≡ true)) where
        pub a_split : SplitPlan (blocks_held t) (width_of (held t)) (held t) s place h a (Some (Split (record { node = f; place = place; leaf = h; position = d; side = side })))
        a_split from to small =
            rw (← width, ← free, ← is_d) (side, side_of_bit F s d set side is_set is_side, refl)

-- the plan of a filing that no question refuses
module _ (t : Tables) (b : ℕ) (ws : List ℕ) (A : Passed (blocks_held t) (held t) b ws) where
  abbrev s : ℕ
  s = number_in ws

  abbrev sound : Type 0
  sound = Sound (signatures_held t) (held t)

  abbrev PlansTo : Option Plan → Type 0
  PlansTo = Plans (signatures_held t) (held t) b s

  asks : (S : sound) → filed_of (held t) b ≡ 0 → Fileable S b s
  asks S u = record { from = A.from; to = A.to; unfiled = u; small = A.small }

  -- the count is full
  pub plan_full : blocks_held t ≤ count_of t.rows.links.now → PlansTo None
  plan_full h S u = absurd (omega (arith, front t 4 (omega arith), room (asks S u)))

  pub plan_first : root_of t.rows.links.now ≡ 0 → PlansTo (Some First)
  plan_first e S u =
      (refl, sym (links_first (signatures_held t) (held t) b s root_at (root_of (held t)) (sym (spot_leaf (blocks_held t) (width_of (held t)) (held t) s (width_of (held t)) root_at (omega (arith, front t 2 (omega arith))))) refl (sym (front t 2 (omega arith)) ∙ e)))

  -- an unfit node on the walk
  pub plan_lost : (a : ℕ) → Ends (blocks_held t) (width_of t.rows.links.now) (held t) s 0 a → PlansTo None
  plan_lost a E S u = absurd (E.fit (rw (front t 0 (omega arith)) (sound_fits S s)) refl)

  -- the walk's end
  module _ (root : root_of t.rows.links.now ≢ 0) (w : Walked)
      (E : Ends (blocks_held t) (width_of t.rows.links.now) (held t) s (link t w) (above t w))
      (H : HeldBy (blocks_held t) (held t) (link t w) (above t w) w.reference (parent_node w.parent)) where
    here : word (held t) (link t w) ≡ w.reference
    here = sym (H.here (some_place (blocks_held t) w.place))

    at_spot : link t w ≡ spot_of (blocks_held t) (width_of (held t)) (held t) s
    at_spot = rw (← front t 0 (omega arith)) (E.spot (some_place (blocks_held t) w.place))

    leaf_there : sound → filed_of (held t) b ≡ 0 → (1 ≤ w.reference) × (w.reference ≤ blocks_held t)
    leaf_there S u =
        let f = some_tree (asks S u) (λ z. root (front t 2 (omega arith) ∙ z)) in
        let A = at_leaf (asks S u) f.0 f.1 in
        let e : w.reference ≡ A.head = sym here ∙ ap (word (held t)) (at_spot ∙ sym A.spotted) ∙ A.reference in
        omega (arith, A.from, A.to)

    -- no leaf there
    pub plan_no_leaf : (leb 1 w.reference && leb w.reference (blocks_held t)) ≡ false → PlansTo None
    plan_no_leaf z S u = let l = leaf_there S u in not_in_range w.reference (blocks_held t) z l.0 l.1

    module _ (leaf : (leb 1 w.reference && leb w.reference (blocks_held t)) ≡ true) (a : ℕ) (is_a : a ≡ signature_of (signatures_held t) w.reference) where
      some_leaf : w.reference ≢ 0
      some_leaf = let l = (in_range w.reference (blocks_held t) leaf).0 in omega arith

      pub plan_join : a ≡ s → PlansTo (Some (Join w.reference))
      plan_join e S u = (refl, sym (links_join (signatures_held t) (held t) b s (link t w) w.reference at_spot here some_leaf (sym is_a ∙ e)))

      split_links : a ≢ s → (e : ℕ) → e ≡ bit_at (width_of (held t)) s (first_difference (width_of (held t)) s a)
          → stores (held t) (split_stores (blocks_held t) (held t) b (link t w) w.reference (free_of (held t)) (first_difference (width_of (held t)) s a) e) ≡ file_links (signatures_held t) (held t) b s
      split_links n e is_e =
          sym (links_split (signatures_held t) (held t) b s (link t w) w.reference at_spot here some_leaf (λ x. n (is_a ∙ x)) (first_difference (width_of (held t)) s a) e (ap (first_difference (width_of (held t)) s) is_a) is_e)

      pub plan_split : a ≢ s → (p : Option Plan) → SplitPlan (blocks_held t) (width_of (held t)) (held t) s w.place w.reference a p → PlansTo p
      plan_split n p P S u =
          let f = some_tree (asks S u) (λ z. root (front t 2 (omega arith) ∙ z)) in
          let N = spare (asks S u) f.0 f.1 in
          let l = leaf_there S u in
          let q = P (omega (arith, N.word, N.from)) (omega (arith, N.word, N.to)) (subst (λ (x : ℕ). x < 2 ^ width_of (held t)) (sym is_a) (S.narrow w.reference l.0 l.1)) in
          rw q.2 (refl {a = true}, split_links n (side_number q.0) q.1)
