-- The subtree at a node by the node's word, as the code takes it: what a reference to the node gives, and what its two sides make.
-- Assumes nothing.
use Prim.Native.Nat.{ℕ, zero, suc, ◌+◌, ◌-◌, ◌≤◌, ◌<◌}
use native.Mathlib.Decide.{dec_lt}
use native.Mathlib.Omega.{arith}
use mathlib.Core.Path.{◌≡◌, refl, sym, ◌∙◌, ap}
use mathlib.Core.Logic.{◌⊎◌, inl, inr}
use mathlib.Core.Bool.{Bool, true, false}
use mathlib.Core.List.{List}
use lib.Dec.{eqb}
use lib.ListN.{length, get_or}
use borrow.Author.Tests.{eqb-true, eqb-false, le-leb, lt-leb}
use Rattle.model.specs.Basics.{pick}
use Rattle.model.specs.Limits.{most_blocks}
use Rattle.model.specs.Tables.{width_of}
use Rattle.model.specs.Packed.{position_in, left_in, right_in, unpacked, Packs}
use Rattle.model.proofs.Packing.{front_word, node_position, node_left, node_right}
use Rattle.tables.specs.Fits.{FitsPacked}
use Rattle.search.specs.Budget.{Budget, unfit, node_less, fork_less, Forking}
use Rattle.search.specs.Search.{leaf_twin, side_at, index_of, is_leaf, right_first, in_turn, node_twin, word_at, walk_twin, word_twin}
use Rattle.search.proofs.Steps.{leaf_none, walk_leaf, walk_none, node_spent, node_right as goes_right, node_both}
use Rattle.search.proofs.Leaves.{leaf_block, no_leaf}
use Rattle.search.proofs.Rows.{leaf_row}
use Rattle.search.proofs.Returns.{still_room, still_forking}

-- the word that is read for a reference r that is no leaf, by the index i of its node
module _ (B : ℕ) (nodes : List ℕ) (r : ℕ) (none : is_leaf B r ≡ false) (long : (length nodes + 1 ≡ B) × (B ≤ 65535)) (i : ℕ) (e : i ≡ index_of r) where
  pub word_none : length nodes ≤ i - B → 0 ≡ word_at B nodes r
  unfolding word_at
  word_none h = go (eqb r 0) refl (no_leaf B r none)
    where
      go : (t : Bool) → eqb r 0 ≡ t → (r ≡ 0) ⊎ (B < r) → 0 ≡ word_at B nodes r
      go t z (inl d) = let le : r ≤ B = omega arith in simp (le-leb r B le)
      go true z (inr lt) = let d = eqb-true r 0 z in absurd (omega arith)
      go false z (inr lt) =
          let x : i ≡ r - 1 = rw z at e in
          let k : B ≤ r - B = let a = long.0 in omega arith in
          simp (lt-leb r B lt, le-leb B (r - B) k)

  pub word_some : i - B < length nodes → get_or nodes (i - B) 0 ≡ word_at B nodes r
  unfolding word_at
  word_some h = go (eqb r 0) refl (no_leaf B r none)
    where
      go : (t : Bool) → eqb r 0 ≡ t → (r ≡ 0) ⊎ (B < r) → get_or nodes (i - B) 0 ≡ word_at B nodes r
      go true z d =
          let x : i ≡ 18446744073709551615 = rw z at e in
          let a = long.0 in
          let b = long.1 in
          absurd (omega arith)
      go false z (inl d) = let n = eqb-false r 0 z in absurd (n d)
      go false z (inr lt) =
          let x : i ≡ r - 1 = rw z at e in
          let a = long.0 in
          let k : r - B < B = omega arith in
          let j : i - B ≡ r - B - 1 = omega arith in
          simp (lt-leb r B lt, lt-leb B (r - B) k) (ap (λ (n : ℕ). get_or nodes n 0) j)

-- reference 0 leads nowhere, and a node whose sides are 0 neither
module _ (sigs links : List ℕ) (q : ℕ) where
  walk_zero : (u : ℕ) (l : Budget) (m : List ℕ) → walk_twin u sigs links q 0 l m ≡ (unfit, m)
  walk_zero u l m = walk_leaf sigs links q 0 l m u (omega arith) ∙ leaf_none sigs links q 0 l m refl

  turn_zero : (u : ℕ) (l : Budget) (m : List ℕ) → in_turn (walk_twin u sigs links q) 0 0 l m ≡ (unfit, m)
  turn_zero u l m = rw (walk_zero u l m) (walk_zero u unfit m)

  word_zero : (u : ℕ) (l : Budget) (m : List ℕ) → word_twin u sigs links q 0 l m ≡ (unfit, m)
  unfolding word_twin
  word_zero zero l m = refl
  word_zero (suc u) l m = go (eqb l.nodes 0) (eqb (side_at (width_of links) q 0) 1) (right_first (length sigs) 0 0)
    where
      go : (a b c : Bool)
          → pick a (unfit, m) (pick b (walk_twin u sigs links q 0 (node_less l) m)
          (pick c (in_turn (walk_twin u sigs links q) 0 0 (fork_less l) m) (in_turn (walk_twin u sigs links q) 0 0 (fork_less l) m))) ≡ (unfit, m)
      go true b c = refl
      go false true c = walk_zero u (node_less l) m
      go false false true = turn_zero u (fork_less l) m
      go false false false = turn_zero u (fork_less l) m

-- a node, by its word
module _ (sigs links nodes : List ℕ) (P : Packs (length sigs) links nodes) (q : ℕ) (l : Budget) (m : List ℕ) where
  abbrev U : List ℕ
  U = unpacked links nodes

  width_is : width_of U ≡ width_of links
  width_is = front_word (length sigs) links nodes P 0 (omega arith)

  word_node : (w u : ℕ) → (u ≡ 0 → ⊥) → word_twin u sigs U q w l m ≡ node_twin (walk_twin (u - 1) sigs U q) (width_of U) (length sigs) q (position_in w) (left_in w) (right_in w) l m
  unfolding word_twin
  word_node w zero nu = absurd (nu refl)
  word_node w (suc u) nu = let d : suc u - 1 ≡ u = omega arith in rw d

  -- a reference to a node is its word
  walk_word : (r w u : ℕ) → length sigs < r → r - length sigs < length sigs → w ≡ get_or nodes (r - length sigs - 1) 0 → walk_twin u sigs U q r l m ≡ word_twin u sigs U q w l m
  unfolding walk_twin word_twin
  walk_word r w zero lt to at = simp (lt-leb r (length sigs) lt)
  walk_word r w (suc u) lt to at =
      let i : ℕ = r - length sigs in
      simp (lt-leb r (length sigs) lt, lt-leb (length sigs) i to, node_position (length sigs) links nodes P i (omega arith), node_left (length sigs) links nodes P i (omega arith), node_right (length sigs) links nodes P i (omega arith), ← at)

  -- a reference that is no leaf is the word that is read for it
  pub walk_at : (r w u : ℕ) → is_leaf (length sigs) r ≡ false → w ≡ word_at (length sigs) nodes r → walk_twin u sigs (unpacked links nodes) q r l m ≡ word_twin u sigs (unpacked links nodes) q w l m
  unfolding word_at
  walk_at r w u none at = go (no_leaf (length sigs) r none)
    where
      above : length sigs < r → Dec (r - length sigs < length sigs) → walk_twin u sigs U q r l m ≡ word_twin u sigs U q w l m
      above lt (yes h) = walk_word r w u lt h (simp (lt-leb r (length sigs) lt, lt-leb (length sigs) (r - length sigs) h) at at)
      above lt (no h) =
          let k : length sigs ≤ r - length sigs = omega arith in
          let z : w ≡ 0 = simp (lt-leb r (length sigs) lt, le-leb (length sigs) (r - length sigs) k) at at in
          walk_none sigs U q r l m lt u k ∙ rw z (sym (word_zero sigs U q u l m))

      go : (r ≡ 0) ⊎ (length sigs < r) → walk_twin u sigs U q r l m ≡ word_twin u sigs U q w l m
      go (inl e) =
          let le : r ≤ length sigs = omega arith in
          let z : w ≡ 0 = simp (le-leb r (length sigs) le) at at in
          rw (e, z) (walk_zero sigs U q u l m ∙ sym (word_zero sigs U q u l m))
      go (inr lt) = above lt (dec_lt (r - length sigs) (length sigs))

-- a word with no position untested, and with no node left
pub word_out : (sigs links : List ℕ) (q w : ℕ) (l : Budget) (m : List ℕ) (u : ℕ) → u ≡ 0 → (unfit, m) ≡ word_twin u sigs links q w l m
unfolding word_twin
word_out sigs links q w l m zero e = refl
word_out sigs links q w l m (suc u) e = absurd (omega arith)

pub word_spent : (sigs links : List ℕ) (q w : ℕ) (l : Budget) (m : List ℕ) (u : ℕ) → l.nodes ≡ 0 → (unfit, m) ≡ word_twin u sigs links q w l m
unfolding word_twin
word_spent sigs links q w l m zero e = refl
word_spent sigs links q w l m (suc u) e = sym (node_spent (walk_twin u sigs links q) (width_of links) (length sigs) q (position_in w) (left_in w) (right_in w) l m e)

-- Where a walk stands before it visits the sides x and y of a node: u positions are untested and l is left.
pub record AtNode (sigs links nodes : List ℕ) (q w u : ℕ) (l : Budget) (m : List ℕ) (x y : ℕ) : Type 0 where
  pub packs : Packs (length sigs) links nodes
  pub few : length sigs ≤ most_blocks
  pub room : length sigs ≤ length m
  pub untested : u ≡ 0 → ⊥
  pub some : l.nodes ≡ 0 → ⊥
  pub forking : Forking l
  pub left : x ≡ left_in w
  pub right : y ≡ right_in w

pub at_node : {sigs links nodes : List ℕ} {q w u : ℕ} {l : Budget} {m : List ℕ} {x y : ℕ} → Packs (length sigs) links nodes → length sigs ≤ most_blocks → length sigs ≤ length m → (u ≡ 0 → ⊥) → (l.nodes ≡ 0 → ⊥) → Forking l → x ≡ left_in w → y ≡ right_in w
    → AtNode sigs links nodes q w u l m x y
at_node p b s u n f x y = record { packs = p; few = b; room = s; untested = u; some = n; forking = f; left = x; right = y }

-- the same of tables that fit
pub fit_node : {sigs words links nodes : List ℕ} {q w u : ℕ} {l : Budget} {m : List ℕ} {x y : ℕ} → FitsPacked sigs words links nodes → length sigs ≤ length m → (u ≡ 0 → ⊥) → (l.nodes ≡ 0 → ⊥) → Forking l → x ≡ left_in w → y ≡ right_in w
    → AtNode sigs links nodes q w u l m x y
fit_node t = at_node t.packs t.fits.blocks_to

module _ {sigs links nodes : List ℕ} {q w u : ℕ} {l : Budget} {m : List ℕ} {x y : ℕ} (A : AtNode sigs links nodes q w u l m x y) where
  -- what a side does
  abbrev gives : ℕ → Budget × List ℕ → Budget × List ℕ
  gives r p = walk_twin (u - 1) sigs (unpacked links nodes) q r p.0 p.1

  at_word : word_twin u sigs (unpacked links nodes) q w l m ≡ node_twin (walk_twin (u - 1) sigs (unpacked links nodes) q) (width_of links) (length sigs) q (position_in w) x y l m
  at_word = word_node sigs links nodes A.packs q l m w u A.untested ∙ rw (width_is sigs links nodes A.packs q l m, A.left, A.right)

  -- the right side alone; both, where the left one is a leaf, where none is, and where the right one alone is
  pub right_alone : eqb (side_at (width_of links) q (position_in w)) 1 ≡ true → (l' : Budget) → l' ≡ node_less l → (o : Budget × List ℕ) → o ≡ gives y (l', m)
      → o ≡ word_twin u sigs (unpacked links nodes) q w l m
  right_alone e l' el o eo =
      eo ∙ rw el (sym (at_word ∙ goes_right (walk_twin (u - 1) sigs (unpacked links nodes) q) (width_of links) (length sigs) q (position_in w) x y l m A.some e))

  module _ (e : eqb (side_at (width_of links) q (position_in w)) 1 ≡ false) (l' : Budget) (el : l' ≡ fork_less l) (p : Budget × List ℕ) (o : Budget × List ℕ) where
    in_order : (t : Bool) → right_first (length sigs) x y ≡ t
        → word_twin u sigs (unpacked links nodes) q w l m ≡ pick t (gives x (gives y (l', m))) (gives y (gives x (l', m)))
    in_order t d =
        at_word ∙ node_both (walk_twin (u - 1) sigs (unpacked links nodes) q) (width_of links) (length sigs) q (position_in w) x y l m A.some e ∙ rw (d, el)

    left_first : right_first (length sigs) x y ≡ false → p ≡ gives x (l', m) → o ≡ gives y p → o ≡ word_twin u sigs (unpacked links nodes) q w l m
    left_first d ep eo = eo ∙ ap (gives y) ep ∙ sym (in_order false d)

    pub left_leaf : is_leaf (length sigs) x ≡ true → p ≡ gives x (l', m) → o ≡ gives y p → o ≡ word_twin u sigs (unpacked links nodes) q w l m
    left_leaf hx = left_first (rw hx)

    pub no_leaves : is_leaf (length sigs) x ≡ false → is_leaf (length sigs) y ≡ false → p ≡ gives x (l', m) → o ≡ gives y p → o ≡ word_twin u sigs (unpacked links nodes) q w l m
    no_leaves hx hy = left_first (rw (hx, hy))

    pub right_leaf : is_leaf (length sigs) x ≡ false → is_leaf (length sigs) y ≡ true → p ≡ gives y (l', m) → o ≡ gives x p → o ≡ word_twin u sigs (unpacked links nodes) q w l m
    right_leaf hx hy ep eo = let d : right_first (length sigs) x y ≡ true = rw (hx, hy) in eo ∙ ap (gives x) ep ∙ sym (in_order true d)

  -- a side that is a leaf, and one that is a node
  pub leaf_gives : (r : ℕ) → is_leaf (length sigs) r ≡ true → (p : Budget × List ℕ) → leaf_twin sigs links q r p.0 p.1 ≡ gives r p
  leaf_gives r h p =
      let k = leaf_block (length sigs) r A.few h in
      sym (leaf_row sigs links nodes A.packs q r p.0 p.1) ∙ sym (walk_leaf sigs (unpacked links nodes) q r p.0 p.1 (u - 1) k.1)

  pub node_gives : (r v : ℕ) → is_leaf (length sigs) r ≡ false → v ≡ word_at (length sigs) nodes r → (p : Budget × List ℕ) → word_twin (u - 1) sigs (unpacked links nodes) q v p.0 p.1 ≡ gives r p
  node_gives r v h d p = sym (walk_at sigs links nodes A.packs q p.0 p.1 r v (u - 1) h d)

  -- what stands after a side
  pub room_after : (r : ℕ) (l' a : Budget) (m₁ : List ℕ) → (a, m₁) ≡ gives r (l', m) → length sigs ≤ length m₁
  room_after r l' a m₁ e = still_room sigs links nodes q (u - 1) r l' a m m₁ A.room e

  pub forking_after : (r : ℕ) (l' a : Budget) (m₁ : List ℕ) → Forking l' → (a, m₁) ≡ gives r (l', m) → Forking a
  forking_after r l' a m₁ h e = still_forking sigs links nodes q (u - 1) r l' a m m₁ A.room e h

  -- and below the node
  pub node_below : (l' : Budget) → l' ≡ node_less l → Forking l'
  node_below l' e = rw e (omega (arith, A.forking))

  pub fork_below : (l' : Budget) → l' ≡ fork_less l → Forking l'
  fork_below l' e = rw e (omega (arith, A.forking))
