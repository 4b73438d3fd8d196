-- What an audit looks at, counted along the definitions of Audit.antt: the nodes of the tree, the blocks on its chains and the nodes on
-- the free chain, each as often as it is looked at. The rows' loop, before them, goes once over the B rows.
-- Assumes nothing.
use Rattle.std.specs.Prelude.{ℕ, zero, suc, ◌+◌, ◌-◌, Bool, false, List, Option, None, Some, eqb, leb, length}
use Rattle.std.specs.Int.Bits.{bit_and}
use Rattle.model.specs.Basics.{pick}
use Rattle.model.specs.Tables.{width_of, root_of, free_of, count_of, next_of, left_of, signature_of, signatures_of}
use Rattle.model.specs.Sound.{filed_up_to}
use Rattle.model.specs.Questions.{asks_tables, tables_fit}
use Rattle.audit.specs.declared.walk.Lent.{Lent}
use Rattle.audit.specs.Audit.{Tested, Weighed, rows_ok, block_ok, look_twin, passed_by, node_less, walk_twin, untested_all, tree_twin, free_ok, lent_tree}

-- nodes, and blocks on chains
pub record Seen : Type 0 where
  pub nodes : ℕ
  pub blocks : ℕ

abbrev pub none : Seen
none = record { nodes = 0; blocks = 0 }

abbrev pub one : Seen
one = record { nodes = 1; blocks = 0 }

abbrev pub plus : Seen → Seen → Seen
plus x y = record { nodes = x.nodes + y.nodes; blocks = x.blocks + y.blocks }

-- the blocks that a chain's walk looks at
unfoldable pub chain_seen : ℕ → List ℕ → List ℕ → ℕ → ℕ → ℕ
chain_seen zero sigs links s b = 0
chain_seen (suc k) sigs links s b = pick (eqb b 0) 0 (pick (block_ok sigs links s b) (suc (chain_seen k sigs links s (next_of links b))) 1)

unfoldable pub leaf_seen : List ℕ → List ℕ → Tested → ℕ → Lent → Seen
leaf_seen sigs links t r lent =
    pick (eqb r 0) none
    (pick (eqb (bit_and (signature_of sigs r) t.mask) t.edges) (record { nodes = 0; blocks = chain_seen lent.blocks sigs links (signature_of sigs r) r }) none)

-- the right side of a node, which is lent what the left side leaves
abbrev pub right_seen : (Lent → Seen) → Option Lent → Seen
right_seen look None = none
right_seen look (Some left) = look left

-- a node's sides: the left, and the right where the left, as `walk` gives it, is fit
abbrev pub sides_seen : (Tested → ℕ → Lent → Seen) → (Tested → ℕ → Lent → Option Lent) → Tested → Weighed → Lent → Seen
sides_seen look walk t d lent =
    plus (look (passed_by t d.weight 0) d.left (node_less lent))
    (right_seen (look (passed_by t d.weight d.weight) d.right) (walk (passed_by t d.weight 0) d.left (node_less lent)))

-- the node itself is looked at wherever one is lent
abbrev pub node_seen : (Tested → ℕ → Lent → Seen) → (Tested → ℕ → Lent → Option Lent) → Tested → Option Weighed → Lent → Seen
node_seen look walk t None lent = pick (eqb lent.nodes 0) none one
node_seen look walk t (Some d) lent = pick (eqb lent.nodes 0) none (plus one (sides_seen look walk t d lent))

unfoldable pub walk_seen : ℕ → List ℕ → List ℕ → Tested → ℕ → Lent → Seen
walk_seen zero sigs links t r lent = pick (leb r (length sigs)) (leaf_seen sigs links t r lent) none
walk_seen (suc u) sigs links t r lent =
    pick (leb r (length sigs)) (leaf_seen sigs links t r lent)
    (node_seen (walk_seen u sigs links) (walk_twin u sigs links) t (look_twin links (length sigs) t.mask (r - length sigs)) lent)

unfoldable pub tree_seen : List ℕ → List ℕ → Lent → Seen
tree_seen sigs links lent = pick (eqb (root_of links) 0) none (walk_seen (width_of links) sigs links untested_all (root_of links) lent)

-- the nodes that the free chain's walk looks at
unfoldable pub free_seen : ℕ → List ℕ → ℕ → ℕ → ℕ
free_seen zero links B i = 0
free_seen (suc k) links B i = pick (free_ok links B i) (suc (free_seen k links B (left_of B links i))) 1

-- the tree's, then the free chain's where the tree is fit and has all filed blocks
abbrev pub rest_seen : List ℕ → ℕ → Option Lent → ℕ
rest_seen links B None = 0
rest_seen links B (Some left) = pick (eqb left.blocks 0) (free_seen left.nodes links B (free_of links)) 0

-- does the audit come to the tree? Question 4 says yes, the rows are fit, and word 4 counts the filed ones
abbrev pub comes_by : List ℕ → List ℕ → Bool
comes_by sigs links = pick (rows_ok sigs links (length sigs)) (eqb (count_of links) (filed_up_to links (length sigs))) false

unfoldable pub comes_to_tree : List ℕ → List ℕ → Bool
comes_to_tree words links = pick (tables_fit (asks_tables words links)) (comes_by (signatures_of words links) links) false

-- what the audit looks at, of the words as they are lent
unfoldable pub tree_work : List ℕ → List ℕ → Seen
tree_work words links = pick (comes_to_tree words links) (tree_seen (signatures_of words links) links (lent_tree (signatures_of words links) links)) none

-- after the tree, of B blocks
abbrev pub rest_work : List ℕ → List ℕ → ℕ
rest_work sigs links = rest_seen links (length sigs) (tree_twin sigs links (lent_tree sigs links))

unfoldable pub free_work : List ℕ → List ℕ → ℕ
free_work words links = pick (comes_to_tree words links) (rest_work (signatures_of words links) links) 0
