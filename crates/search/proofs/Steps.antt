-- The walk's definitions one step at a time, as the code takes them: each law is one way through a chain, a leaf or a node.
-- Assumes nothing.
use Prim.Native.Nat.{ℕ, zero, suc, ◌-◌, ◌≤◌, ◌<◌}
use native.Mathlib.Omega.{arith}
use mathlib.Core.Path.{◌≡◌, refl}
use mathlib.Core.Bool.{true, false}
use mathlib.Core.List.{List}
use lib.Dec.{eqb}
use lib.ListN.{length}
use Rattle.model.specs.Basics.{pick}
use borrow.Author.Tests.{eq-eqb, ne_eqb, le-leb, lt-leb}
use Rattle.model.specs.Signature.{coversb}
use Rattle.model.specs.Tables.{width_of, root_of, next_of, position_of, left_of, right_of, signature_of}
use Rattle.model.specs.Ledger.{bare}
use Rattle.model.specs.Promises.{unsound}
use Rattle.search.specs.Budget.{Budget, unfit, lent, node_less, fork_less}
use Rattle.search.specs.Marks.{mark, cleared}
use Rattle.search.specs.Search.{may_mark, chain_twin, leaf_twin, side_at, right_first, in_turn, node_twin, walk_twin, list_twin, found_twin}

module _ (sigs links : List ℕ) (q n f : ℕ) (b : ℕ) (m : List ℕ) where
  pub chain_end : (k : ℕ) → b ≡ 0 → chain_twin sigs links q n f k b m ≡ (record { nodes = n; forks = f; blocks = k }, m)
  unfolding chain_twin
  chain_end zero e = simp (eq-eqb b 0 e)
  chain_end (suc k) e = simp (eq-eqb b 0 e)

  pub chain_spent : (k : ℕ) → (b ≡ 0 → ⊥) → k ≡ 0 → chain_twin sigs links q n f k b m ≡ (unfit, m)
  unfolding chain_twin
  chain_spent zero ne e = simp (ne_eqb b 0 ne)
  chain_spent (suc k) ne e = absurd (omega arith)

  pub chain_stop : (k : ℕ) → (b ≡ 0 → ⊥) → may_mark sigs links q b m ≡ false → chain_twin sigs links q n f k b m ≡ (unfit, m)
  unfolding chain_twin
  chain_stop zero ne e = simp (ne_eqb b 0 ne)
  chain_stop (suc k) ne e = simp (ne_eqb b 0 ne, e)

  pub chain_mark : (k : ℕ) → (b ≡ 0 → ⊥) → 0 < k → may_mark sigs links q b m ≡ true
      → chain_twin sigs links q n f k b m ≡ chain_twin sigs links q n f (k - 1) (next_of links b) (mark m b)
  unfolding chain_twin
  chain_mark zero ne lt e = absurd (omega arith)
  chain_mark (suc k) ne lt e = let d : suc k - 1 ≡ k = omega arith in rw d (simp (ne_eqb b 0 ne, e))

module _ (sigs links : List ℕ) (q r : ℕ) (l : Budget) (m : List ℕ) where
  pub leaf_none : r ≡ 0 → leaf_twin sigs links q r l m ≡ (unfit, m)
  unfolding leaf_twin
  leaf_none e = simp (eq-eqb r 0 e)

  module _ (ne : r ≡ 0 → ⊥) where
    pub leaf_passed : coversb (width_of links) (signature_of sigs r) q ≡ false → leaf_twin sigs links q r l m ≡ (l, m)
    unfolding leaf_twin
    leaf_passed e = simp (ne_eqb r 0 ne, e)

    pub leaf_chain : coversb (width_of links) (signature_of sigs r) q ≡ true → leaf_twin sigs links q r l m ≡ chain_twin sigs links q l.nodes l.forks l.blocks r m
    unfolding leaf_twin
    leaf_chain e = simp (ne_eqb r 0 ne, e)

  pub walk_leaf : (u : ℕ) → r ≤ length sigs → walk_twin u sigs links q r l m ≡ leaf_twin sigs links q r l m
  unfolding walk_twin
  walk_leaf zero le = simp (le-leb r (length sigs) le)
  walk_leaf (suc u) le = simp (le-leb r (length sigs) le)

  -- a reference to node i, and to no node
  module _ (lt : length sigs < r) where
    pub walk_none : (u : ℕ) → length sigs ≤ r - length sigs → walk_twin u sigs links q r l m ≡ (unfit, m)
    unfolding walk_twin
    walk_none zero h = simp (lt-leb r (length sigs) lt)
    walk_none (suc u) h = simp (lt-leb r (length sigs) lt, le-leb _ _ h)

    pub walk_node : (u : ℕ) → (u ≡ 0 → ⊥) → r - length sigs < length sigs
        → walk_twin u sigs links q r l m ≡ node_twin (walk_twin (u - 1) sigs links q) (width_of links) (length sigs) q (position_of (length sigs) links (r - length sigs)) (left_of (length sigs) links (r - length sigs)) (right_of (length sigs) links (r - length sigs)) l m
    unfolding walk_twin
    walk_node zero nu h = absurd (nu refl)
    walk_node (suc u) nu h = let d : suc u - 1 ≡ u = omega arith in rw d (simp (lt-leb r (length sigs) lt, lt-leb _ _ h))

-- a node with nodes left: right only, and both ways
module _ (again : ℕ → Budget → List ℕ → Budget × List ℕ) (F B q p x y : ℕ) (l : Budget) (m : List ℕ) where
  pub node_spent : l.nodes ≡ 0 → node_twin again F B q p x y l m ≡ (unfit, m)
  node_spent e = simp (eq-eqb _ _ e)

  module _ (some : l.nodes ≡ 0 → ⊥) where
    pub node_right : eqb (side_at F q p) 1 ≡ true → node_twin again F B q p x y l m ≡ again y (node_less l) m
    node_right e = simp (ne_eqb _ _ some, e)

    pub node_both : eqb (side_at F q p) 1 ≡ false → node_twin again F B q p x y l m ≡ pick (right_first B x y) (in_turn again y x (fork_less l) m) (in_turn again x y (fork_less l) m)
    node_both e = simp (ne_eqb _ _ some, e)

-- a search that no question refuses, where z is the cleared marks
module _ (sigs links : List ℕ) (q : ℕ) (m out z : List ℕ) (c : z ≡ cleared (length sigs) m) where
  pub found_empty : root_of links ≡ 0 → (bare 0, z, out) ≡ found_twin sigs links q m out
  unfolding found_twin
  found_empty h = rw (← c, eq-eqb _ _ h)

  module _ (w : Budget) (m₁ : List ℕ) (h : root_of links ≡ 0 → ⊥)
      (e : ◌≡◌ {A = Budget × List ℕ} (w, m₁) (walk_twin (width_of links) sigs links q (root_of links) (lent (length sigs)) z)) where
    pub found_unfit : w.forks ≡ 0 → (bare unsound, m₁, out) ≡ found_twin sigs links q m out
    unfolding found_twin
    found_unfit f = rw (← c, ne_eqb _ _ h, ← e, eq-eqb _ _ f)

    pub found_list : (w.forks ≡ 0 → ⊥) → list_twin (length sigs) (w, m₁) out ≡ found_twin sigs links q m out
    unfolding found_twin
    found_list f = rw (← c, ne_eqb _ _ h, ← e, ne_eqb _ _ f)
