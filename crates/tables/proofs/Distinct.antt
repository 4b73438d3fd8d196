-- No block and no node of a sound shape stands twice: a chain does not come back, a node is not below itself, and the two sides of a
-- node have nothing in common. So there are at most B blocks, and a chain is no longer.
-- Assumes nothing.
use Prim.Native.Nat.{ℕ, ◌≤◌}
use mathlib.Core.Logic.{◌⊎◌, inl, inr}
use mathlib.Core.List.Memᴰ
use mathlib.Core.List.{List, [], ◌∷◌, Memᴰ}
use lib.ListN.{length}
use Rattle.model.specs.Tree.{Edge, edge}
use Rattle.model.specs.Tables.{left_of, right_of}
use Rattle.model.specs.Sound.{Shape, tip, fork, Chain, Holds, nodes, blocks, Placed}
use Rattle.model.proofs.Pigeon.{Distinct, distinct_append, few_within}
use Rattle.tables.proofs.Shapes.{chain_no_return, chain_range, blocks_range, blocks_apart, nodes_apart, not_below}

module _ (B : ℕ) (L : List ℕ) where
  pub chain_distinct : (h : ℕ) (cs : List ℕ) → Chain B L h cs → Distinct (h ∷ cs)
  chain_distinct h [] q = (chain_no_return B L h [] q, tt)
  chain_distinct h (c ∷ cs) q = (chain_no_return B L h (c ∷ cs) q, chain_distinct c cs q.3)

  pub chain_short : (h : ℕ) (cs : List ℕ) → Chain B L h cs → length cs ≤ B
  chain_short h cs q = few_within B cs (chain_distinct h cs q).1 (chain_range B L h cs q)

  module _ (F : ℕ) (sigs : List ℕ) where
    pub blocks_distinct : (path : List Edge) (t : Shape) (r : ℕ) → Holds B L r t → Placed F sigs L path t → Distinct (blocks t)
    blocks_distinct path (tip h cs) r q pl = chain_distinct h cs q.3
    blocks_distinct path (fork i p l k) r q pl =
        distinct_append (blocks l) (blocks k) (blocks_distinct (edge p 0 ∷ path) l (left_of B L i) q.4 pl.3) (blocks_distinct (edge p 1 ∷ path) k (right_of B L i) q.5 pl.4)
        (blocks_apart B L F sigs path i p l k pl)

    pub blocks_few : (path : List Edge) (t : Shape) (r : ℕ) → Holds B L r t → Placed F sigs L path t → length (blocks t) ≤ B
    blocks_few path t r q pl = few_within B (blocks t) (blocks_distinct path t r q pl) (blocks_range B L t r q)

    pub nodes_distinct : (path : List Edge) (t : Shape) (r : ℕ) → Holds B L r t → Placed F sigs L path t → Distinct (nodes t)
    nodes_distinct path (tip h cs) r q pl = tt
    nodes_distinct path (fork i p l k) r q pl = (
      (λ m. go (Memᴰ.append_cases (nodes l) m)),
      distinct_append (nodes l) (nodes k) (nodes_distinct (edge p 0 ∷ path) l (left_of B L i) q.4 pl.3) (nodes_distinct (edge p 1 ∷ path) k (right_of B L i) q.5 pl.4)
          (nodes_apart B L F sigs path i p l k r q pl),
    )
      where
        go : Memᴰ i (nodes l) ⊎ Memᴰ i (nodes k) → ⊥
        go (inl m) = (not_below B L i p l k r q).0 m
        go (inr m) = (not_below B L i p l k r q).1 m
