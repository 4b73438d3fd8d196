-- Where the walk by a signature's bits has come to, by the nodes that it keeps: their edges are at the addresses of the definitions' walk.
-- Assumes nothing.
use Prim.Native.Nat.{ℕ, zero, suc, ◌+◌, ◌-◌, ◌≤◌, ◌<◌}
use native.Mathlib.Omega.{arith}
use mathlib.Core.Path.{◌≡◌, refl, sym, ◌∙◌, ap, subst}
use mathlib.Core.Logic.{◌⊎◌, ◌≢◌}
use mathlib.Core.List.{List}
use lib.ListN.{length, get_or}
use Rattle.model.specs.Signature.{bit_at}
use Rattle.model.specs.Tables.{word, root_at, root_of, position_of, side_at}
use Rattle.model.specs.File.{edge_at}
use Rattle.model.specs.Limits.{widest}
use Rattle.model.specs.Packed.{position_in, part_in, unpacked, Packs}
use Rattle.model.proofs.Packing.{row_word, node_position}
use Rattle.tables.specs.declared.place.Place.{Place}
use Rattle.tables.specs.declared.side.Side.{Side}
use Rattle.tables.specs.Walk.{NodeFits, EdgeIn, Ends, below_at}
use Rattle.tables.specs.Sides.{side_number}
use Rattle.tables.specs.Places.{address_of}
use Rattle.tables.proofs.Edges.{edge_of, side_at_is}
use Rattle.tables.proofs.Lending.{side_small}
use Rattle.tables.proofs.Walks.{Walking, walk_starts, walk_steps, walk_ends, walk_fails}

pub below_some : (B F : ℕ) (L : List ℕ) (s i : ℕ) → i ≢ 0 → below_at B F L s i ≡ edge_at B F L s i
below_some B F L s zero n = absurd (n refl)
below_some B F L s (suc i) n = refl

module _ (B F : ℕ) (links nodes : List ℕ) (s : ℕ) where
  abbrev U : List ℕ
  U = unpacked links nodes

  -- the address of the reference to the node, 0 for none
  abbrev over : ℕ → ℕ → ℕ
  over zero above = 0
  over (suc i) above = below_at B F U s above

  -- the walk stands below the node, at reference r, with n nodes left; the reference to the node is below the one above
  pub record Reached (n r node above : ℕ) : Type 0 where
    pub fit : node ≢ 0 → NodeFits B F U node
    pub fit_above : above ≢ 0 → NodeFits B F U above
    pub here : r ≡ word U (below_at B F U s node)
    pub walking : Walking B F U s n (below_at B F U s node) (over node above)
    pub held : node ≢ 0 → word U (below_at B F U s above) ≡ B + node

  module _ (P : Packs B links nodes) where
    pub reached_root : (n r : ℕ) → n ≡ F → r ≡ root_of links → Reached n r 0 0
    reached_root n r f e = record {
      fit = λ n. absurd (n refl);
      fit_above = λ n. absurd (n refl);
      here = e ∙ sym (row_word links nodes root_at (omega (arith, P.rows_long)));
      walking = rw f (walk_starts B F U s);
      held = λ n. absurd (n refl);
    }

    module _ (n r node above : ℕ) (R : Reached n r node above) where
      -- it ends at a reference that is no node, or with no node left: at the root, or below these nodes
      module _ (h : (r ≤ B) ⊎ (n ≤ 0)) where
        ends : Ends B F U s (below_at B F U s node) (over node above)
        ends = walk_ends B F U s n _ _ R.walking (rw R.here at h)

        pub ends_root : node ≡ 0 → Ends B F U s root_at 0
        ends_root z = subst (λ (i : ℕ). Ends B F U s (below_at B F U s i) (over i above)) z ends

        module _ (some : node ≢ 0) where
          over_some : over node above ≡ below_at B F U s above
          over_some = go node some
            where
              go : (i : ℕ) → i ≢ 0 → over i above ≡ below_at B F U s above
              go zero k = absurd (k refl)
              go (suc i) k = refl

          pub ends_below : (p : Place) → address_of B p ≡ below_at B F U s node → (q : Place) → address_of B q ≡ below_at B F U s above → Ends B F U s (address_of B p) (address_of B q)
          ends_below p e q f = rw (e, f) (rw over_some at ends)

      module _ (more : 0 < n) (beyond : B < r) where
        -- or at an unfit node
        pub reached_unfit : (NodeFits B F U (r - B) → ⊥) → Ends B F U s 0 0
        reached_unfit f = walk_fails B F U s n _ _ r R.here more R.walking beyond f

        module _ (i : ℕ) (at : i ≡ r - B) (to : i < B) (v : ℕ) (is : v ≡ get_or nodes (i - 1) 0) where
          pub reached_no_side : EdgeIn F v s 2 → Ends B F U s 0 0
          reached_no_side E =
              let D = edge_of B F links nodes P s i v 2 (omega arith) to is E in
              reached_unfit (λ f. let h = D.fit (rw at f) in omega arith)

          pub reached_side : (m : ℕ) (side : Side) (x : ℕ) → m ≡ n - 1 → EdgeIn F v s (side_number side) → x ≡ part_in v (1 + side_number side) → Reached m x i node
          reached_side m side x less E e =
              let from : 1 ≤ i = omega arith in
              let some : i ≢ 0 = omega arith in
              let small = side_small side in
              let D = edge_of B F links nodes P s i v (side_number side) from to is E in
              let f = D.node small in
              record {
                fit = λ _. f;
                fit_above = R.fit;
                here = e ∙ side_at_is B F links nodes P s i v (side_number side) from to is small ∙ ap (λ (d : ℕ). word U (side_at B i d)) (D.bit small) ∙ sym (ap (word U) (below_some B F U s i some));
                walking = rw less (reached_over i some (walk_steps B F U s n _ _ (below_at B F U s i) r R.here more R.walking beyond (rw (← at) f) (below_some B F U s i some ∙ ap (edge_at B F U s) at)));
                held = λ _. omega (arith, R.here);
              }
            where
              reached_over : {l m : ℕ} (j : ℕ) → j ≢ 0 → Walking B F U s m l (below_at B F U s node) → Walking B F U s m l (over j node)
              reached_over zero k w = absurd (k refl)
              reached_over (suc j) k w = w

    -- the word of a node that it has passed, if any, has a position
    pub passed_asks : (places i : ℕ) → (i ≢ 0 → NodeFits B F U i) → F ≤ widest → F ≤ places → (i ≤ length nodes) × (F ≤ widest) × (F ≤ places) × (i ≢ 0 → (1 ≤ position_in (get_or nodes (i - 1) 0)) × (position_in (get_or nodes (i - 1) 0) ≤ F))
    passed_asks places zero f h k = (omega arith, h, k, λ n. absurd (n refl))
    passed_asks places (suc i) f h k =
        let g = f (omega arith) in
        let e = node_position B links nodes P (suc i) (omega arith) in
        (omega (arith, P.nodes_long, g.0), h, k, λ _. (rw e at g.1, rw e at g.2))

-- a side below a node that the walk has passed
module _ (B F : ℕ) (links nodes : List ℕ) (P : Packs B links nodes) (s i : ℕ) (some : i ≢ 0) (v p : ℕ) (is : v ≡ get_or nodes (i - 1) 0) (at : p ≡ position_in v) where
  passed_position : p ≡ position_of B (unpacked links nodes) i
  passed_position = at ∙ ap position_in is ∙ sym (node_position B links nodes P i (omega arith))

  pub passed_below : (e : ℕ) → e ≡ bit_at F s p → side_at B i e ≡ below_at B F (unpacked links nodes) s i
  passed_below e h = ap (side_at B i) (h ∙ ap (bit_at F s) passed_position) ∙ sym (below_some B F (unpacked links nodes) s i some)
