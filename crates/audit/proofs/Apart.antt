-- Nothing stands twice: the blocks on a tree's chains, its nodes, and its nodes with the free ones. A node of the tree tests a
-- position and a free one has 0 there, so they are apart.
-- Assumes nothing.
use Prim.Native.Nat.{ℕ, ◌-◌, ◌≤◌, ◌<◌}
use native.Mathlib.Omega.{arith}
use mathlib.Core.Path.{◌≡◌, sym, subst}
use mathlib.Core.Logic.{◌⊎◌, inl, inr}
use mathlib.Core.List.Memᴰ
use mathlib.Core.List.{List, [], ◌∷◌, ◌++◌, Memᴰ}
use Rattle.model.specs.Tree.{Edge, edge}
use Rattle.model.specs.Tables.{root_of, free_of, position_of, left_of, right_of}
use Rattle.model.specs.Sound.{Shape, tip, fork, Rooted, none, some, Holds, HoldsRoot, nodes, nodes_in, blocks_in, Placed, PlacedRoot, FreeChain}
use Rattle.model.proofs.Pigeon.{Distinct, distinct_append, down_from, down_from_has}
use Rattle.tables.proofs.Shapes.{blocks_range, nodes_range, blocks_placed}
use Rattle.tables.proofs.Distinct.{blocks_distinct, nodes_distinct}
use Rattle.tables.proofs.Counts.{free_range, free_distinct}
use Rattle.audit.proofs.Counting.{filed_list, filed_has}

module _ (B : ℕ) (L : List ℕ) where
  free_blank : (r : ℕ) (is : List ℕ) → FreeChain B L r is → (j : ℕ) → Memᴰ j is → position_of B L j ≡ 0
  free_blank r [] q j m = absurd (Memᴰ.not-nil m)
  free_blank r (i ∷ is) q j m = go (Memᴰ.cases_cons m) (free_blank (left_of B L i) is q.5 j)
    where
      go : (j ≡ i) ⊎ Memᴰ j is → (Memᴰ j is → position_of B L j ≡ 0) → position_of B L j ≡ 0
      go (inl e) f = subst (λ (x : ℕ). position_of B L x ≡ 0) (sym e) q.3
      go (inr n) f = f n

  module _ (F : ℕ) (S : List ℕ) where
    -- a node of the tree tests a position
    nodes_test : (path : List Edge) (t : Shape) (r : ℕ) → Holds B L r t → Placed F S L path t → (j : ℕ) → Memᴰ j (nodes t) → 1 ≤ position_of B L j
    nodes_test path (tip h cs) r q pl j m = absurd (Memᴰ.not-nil m)
    nodes_test path (fork i p l k) r q pl j m =
        go (Memᴰ.cases_cons m)
        (nodes_test (edge p 0 ∷ path) l (left_of B L i) q.4 pl.3 j)
        (nodes_test (edge p 1 ∷ path) k (right_of B L i) q.5 pl.4 j)
      where
        either : Memᴰ j (nodes l) ⊎ Memᴰ j (nodes k) → (Memᴰ j (nodes l) → 1 ≤ position_of B L j) → (Memᴰ j (nodes k) → 1 ≤ position_of B L j) → 1 ≤ position_of B L j
        either (inl n) f g = f n
        either (inr n) f g = g n

        go : (j ≡ i) ⊎ Memᴰ j (nodes l ++ nodes k) → (Memᴰ j (nodes l) → 1 ≤ position_of B L j) → (Memᴰ j (nodes k) → 1 ≤ position_of B L j) → 1 ≤ position_of B L j
        go (inl e) f g = subst (λ (x : ℕ). 1 ≤ position_of B L x) (sym e) (subst (λ (x : ℕ). 1 ≤ x) (sym q.3) pl.0)
        go (inr n) f g = either (Memᴰ.append_cases (nodes l) n) f g

-- the same from the root
module _ (B F : ℕ) (S L : List ℕ) (t : Rooted) (q : HoldsRoot B L (root_of L) t) (pl : PlacedRoot F S L t) where
  pub tree_blocks_distinct : Distinct (blocks_in t)
  tree_blocks_distinct = go t q pl
    where
      go : (t : Rooted) → HoldsRoot B L (root_of L) t → PlacedRoot F S L t → Distinct (blocks_in t)
      go none q pl = tt
      go (some t) q pl = blocks_distinct B L F S [] t (root_of L) q pl

  pub tree_blocks_filed : (c : ℕ) → Memᴰ c (blocks_in t) → Memᴰ c (filed_list L B)
  tree_blocks_filed = go t q pl
    where
      go : (t : Rooted) → HoldsRoot B L (root_of L) t → PlacedRoot F S L t → (c : ℕ) → Memᴰ c (blocks_in t) → Memᴰ c (filed_list L B)
      go none q pl c m = absurd (Memᴰ.not-nil m)
      go (some t) q pl c m = let g = blocks_range B L t (root_of L) q c m in filed_has L B c g.0 g.1 (blocks_placed B L F S [] t pl c m).0

  tree_nodes_distinct : Distinct (nodes_in t)
  tree_nodes_distinct = go t q pl
    where
      go : (t : Rooted) → HoldsRoot B L (root_of L) t → PlacedRoot F S L t → Distinct (nodes_in t)
      go none q pl = tt
      go (some t) q pl = nodes_distinct B L F S [] t (root_of L) q pl

  tree_nodes : (i : ℕ) → Memᴰ i (nodes_in t) → (1 ≤ i) × (i < B) × (1 ≤ position_of B L i)
  tree_nodes = go t q pl
    where
      go : (t : Rooted) → HoldsRoot B L (root_of L) t → PlacedRoot F S L t → (i : ℕ) → Memᴰ i (nodes_in t) → (1 ≤ i) × (i < B) × (1 ≤ position_of B L i)
      go none q pl i m = absurd (Memᴰ.not-nil m)
      go (some t) q pl i m = let g = nodes_range B L t (root_of L) q i m in (g.0, g.1, nodes_test B L F S [] t (root_of L) q pl i m)

  -- the tree's nodes, then the free ones: none twice, all 1 to B - 1
  module _ (is : List ℕ) (fr : FreeChain B L (free_of L) is) where
    pub apart : (i : ℕ) → Memᴰ i (nodes_in t) → Memᴰ i is → ⊥
    apart i m n = omega (arith, (tree_nodes i m).2, free_blank B L (free_of L) is fr i n)

    pub all_distinct : Distinct (nodes_in t ++ is)
    all_distinct = distinct_append (nodes_in t) is tree_nodes_distinct (free_distinct B L (free_of L) is fr) apart

    pub all_range : (i : ℕ) → Memᴰ i (nodes_in t ++ is) → Memᴰ i (down_from (B - 1))
    all_range i m = go (Memᴰ.append_cases (nodes_in t) m)
      where
        inside : (1 ≤ i) → (i < B) → Memᴰ i (down_from (B - 1))
        inside a b = down_from_has (B - 1) i a (omega arith)

        go : Memᴰ i (nodes_in t) ⊎ Memᴰ i is → Memᴰ i (down_from (B - 1))
        go (inl n) = let g = tree_nodes i n in inside g.0 g.1
        go (inr n) = let g = free_range B L (free_of L) is fr i n in inside g.0 g.1
