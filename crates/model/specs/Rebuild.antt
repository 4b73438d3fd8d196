-- The links that Rebuild leaves (document 01, "The calls"); the signatures, the rows and the count stay. A group is a list of head
-- blocks, one for each of its distinct signatures.
-- Assumes nothing.
use Rattle.std.specs.Prelude.{ℕ, zero, suc, ◌+◌, ◌-◌, ◌*◌, max, true, false, List, [], ◌∷◌, ◌++◌, eqb, leb, length, take, drop}
use Rattle.model.specs.Tables.{width_of, root_of, count_of, left_of, right_of, signature_of}
use Rattle.model.specs.Build.{side, best_position}
use Rattle.model.specs.Clear.{free_from, free_nodes}

-- the heads of the chains from reference r, left to right; n bounds the nodes on a path
unfoldable pub heads_from : ℕ → List ℕ → ℕ → ℕ → List ℕ
heads_from B links zero r = elim (eqb r 0) [ true ↦ [] | false ↦ r ∷ [] ]
heads_from B links (suc n) r =
    elim (eqb r 0) [
      | true ↦ []
      | false ↦ elim (leb r B) [
        | true ↦ r ∷ []
        | false ↦ heads_from B links n (left_of B links (r - B)) ++ heads_from B links n (right_of B links (r - B))
      ]
    ]

-- the heads of the tables' tree
abbrev pub heads_of : List ℕ → List ℕ → List ℕ
heads_of sigs links = heads_from (length sigs) links (width_of links) (root_of links)

-- the reference to a group's tree whose nodes are numbered from i on: nothing, its only head, or node i
abbrev pub group_reference : ℕ → List ℕ → ℕ → ℕ
group_reference B [] i = 0
group_reference B (b ∷ []) i = b
group_reference B (b ∷ c ∷ g) i = B + i

-- the words of a group's nodes, numbered from i on: a node, all of its left side, then its right; n bounds the depth
unfoldable pub group_nodes : ℕ → ℕ → List ℕ → List ℕ → ℕ → List ℕ
group_nodes zero F sigs g i = []
group_nodes (suc n) F sigs [] i = []
group_nodes (suc n) F sigs (b ∷ []) i = []
group_nodes (suc n) F sigs (b ∷ c ∷ g) i =
    let p = best_position F (signature_of sigs) (b ∷ c ∷ g) in
    let l = side F (signature_of sigs) p 0 (b ∷ c ∷ g) in
    let r = side F (signature_of sigs) p 1 (b ∷ c ∷ g) in
    p
    ∷ group_reference (length sigs) l (i + 1)
    ∷ group_reference (length sigs) r (i + length l)
    ∷ group_nodes n F sigs l (i + 1) ++ group_nodes n F sigs r (i + length l)

-- the links with the tree of these heads, its nodes from 1 on, and the rest free, ascending
unfoldable pub group_links : List ℕ → List ℕ → List ℕ → List ℕ
group_links sigs links g =
    let B = length sigs in
    let F = width_of links in
    let from = max 1 (length g) in
    F ∷ B ∷ group_reference B g 1 ∷ free_from B from ∷ count_of links ∷ take (2 * B) (drop 5 links) ++ group_nodes (length g) F sigs g 1 ++ free_nodes (B - from) from

-- Rebuild: heads and chains stay
abbrev pub rebuild_links : List ℕ → List ℕ → List ℕ
rebuild_links sigs links = group_links sigs links (heads_of sigs links)
