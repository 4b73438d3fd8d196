-- The plain tree (document 01, "The calls"): what the index is, apart from how it is stored.
-- This file and Signature.antt are what a reader needs to know what a search compares.
-- Assumes nothing.
use Rattle.std.specs.Prelude.{ℕ, ◌+◌, ◌≡◌, ◌≢◌, Bool, true, false, not, ◌&&◌, List, [], ◌∷◌, ◌++◌, eqb}
use Rattle.model.specs.Basics.{keep, has}
use Rattle.model.specs.Signature.{bit_at, first_difference}

-- nothing, a leaf with its signature, or a node with a position, a left and a right tree
pub data Tree : Type 0 where
  nothing : Tree
  leaf : ℕ → Tree
  node : ℕ → Tree → Tree → Tree

-- the left edge is taken: the bit of s at position p is 0
abbrev pub goes_left : ℕ → ℕ → ℕ → Bool
goes_left F s p = eqb (bit_at F s p) 0

-- a node at the first position where s and a differ: the leaf with bit 0 there is left, the other right
unfoldable pub split : ℕ → ℕ → ℕ → Tree
split F s a =
    elim (goes_left F s (first_difference F s a)) [
      | true ↦ node (first_difference F s a) (leaf s) (leaf a)
      | false ↦ node (first_difference F s a) (leaf a) (leaf s)
    ]

-- filing a signature: nothing becomes its leaf; otherwise walk by its bits to a leaf and put a node there, unless that leaf has it
unfoldable pub insert : ℕ → ℕ → Tree → Tree
insert F s nothing = leaf s
insert F s (leaf a) = elim (eqb a s) [ true ↦ leaf a | false ↦ split F s a ]
insert F s (node p l r) = elim (goes_left F s p) [ true ↦ node p (insert F s l) r | false ↦ node p l (insert F s r) ]

-- a node of which a side may be gone: then the sibling takes the parent's place
unfoldable pub join : ℕ → Tree → Tree → Tree
join p nothing r = r
join p (leaf a) nothing = leaf a
join p (leaf a) (leaf b) = node p (leaf a) (leaf b)
join p (leaf a) (node q l r) = node p (leaf a) (node q l r)
join p (node q l r) nothing = node q l r
join p (node q l r) (leaf b) = node p (node q l r) (leaf b)
join p (node q l r) (node q' l' r') = node p (node q l r) (node q' l' r')

-- withdrawing the last pair of a signature takes its leaf away
unfoldable pub remove : ℕ → ℕ → Tree → Tree
remove F s nothing = nothing
remove F s (leaf a) = elim (eqb a s) [ true ↦ nothing | false ↦ leaf a ]
remove F s (node p l r) = elim (goes_left F s p) [ true ↦ join p (remove F s l) r | false ↦ join p l (remove F s r) ]

-- the signatures of the leaves, left to right
unfoldable pub signatures : Tree → List ℕ
signatures nothing = []
signatures (leaf s) = s ∷ []
signatures (node p l r) = signatures l ++ signatures r

-- a position tested, with the edge taken: 0 left, 1 right
pub data Edge : Type 0 where
  edge : ℕ → ℕ → Edge

-- a signature's path: the positions from the root to its leaf, each with the edge taken; the side is the one that has the leaf
unfoldable pub path : ℕ → Tree → List Edge
path s nothing = []
path s (leaf a) = []
path s (node p l r) = elim (has s (signatures l)) [ true ↦ edge p 0 ∷ path s l | false ↦ edge p 1 ∷ path s r ]

-- s agrees with every edge on the path
abbrev pub Agrees : ℕ → ℕ → List Edge → Type 0
Agrees F s [] = Unit {0}
Agrees F s (edge p e ∷ es) = (bit_at F s p ≡ e) × Agrees F s es

-- the position is not tested on the path
abbrev pub Untested : ℕ → List Edge → Type 0
Untested p [] = Unit {0}
Untested p (edge q e ∷ es) = (p ≢ q) × Untested p es

-- at each node on the path whose position is set in q, the edge is 1
unfoldable pub no_zero_edge : ℕ → ℕ → List Edge → Bool
no_zero_edge F q [] = true
no_zero_edge F q (edge p e ∷ es) = not (eqb (bit_at F q p) 1 && eqb e 0) && no_zero_edge F q es

-- those of some signatures that a search for q compares, by their paths: no 0 edge where the query has a 1
abbrev pub reached : ℕ → ℕ → Tree → List ℕ → List ℕ
reached F q t = keep (λ s. no_zero_edge F q (path s t))

-- the leaves that a search for q compares: at a node whose position is set in q right only, else both sides
unfoldable pub compared : ℕ → ℕ → Tree → List ℕ
compared F q nothing = []
compared F q (leaf s) = s ∷ []
compared F q (node p l r) = elim (goes_left F q p) [ true ↦ compared F q l ++ compared F q r | false ↦ compared F q r ]

-- bits read: the nodes that the search reaches
unfoldable pub nodes_read : ℕ → ℕ → Tree → ℕ
nodes_read F q nothing = 0
nodes_read F q (leaf s) = 0
nodes_read F q (node p l r) = elim (goes_left F q p) [ true ↦ 1 + (nodes_read F q l + nodes_read F q r) | false ↦ 1 + nodes_read F q r ]
