-- What the audit answers, as functions of the signatures' numbers and of the links: a definition for each function of the code, step by
-- step. Only the last of them goes by the words as they are lent. That the audit's yes means Sound, both ways, is proved in
-- proofs/Verdict.antt.
-- Assumes nothing.
use Rattle.std.specs.Prelude.{ℕ, zero, suc, ◌-◌, ◌^◌, Bool, true, false, List, Option, None, Some, eqb, leb, ltb, length, take}
use Rattle.std.specs.Int.Bits.{bit_and, bit_or}
use Rattle.model.specs.Basics.{pick}
use Rattle.model.specs.Signature.{bit_at}
use Rattle.model.specs.Wide.{word_count, number_in}
use Rattle.model.specs.Tables.{width_of, root_of, free_of, count_of, next_of, filed_of, position_of, left_of, right_of, signature_of, signatures_of}
use Rattle.model.specs.Sound.{filed_up_to}
use Rattle.model.specs.Questions.{asks_tables, tables_fit}
use Rattle.model.specs.Promises.{unsound}
use Rattle.audit.specs.declared.walk.Lent.{Lent}
use Rattle.audit.specs.declared.walk.Path.{Path}
use Rattle.audit.specs.declared.node.Node.{Node}

-- Rows. One with signature s, next block x and filed word f at width F: the signature is narrow; filed is 1, or all three are 0
unfoldable pub row_ok : ℕ → ℕ → ℕ → ℕ → Bool
row_ok F s x f = pick (ltb s (2 ^ F)) (pick (eqb f 0) (pick (eqb x 0) (eqb s 0) false) (eqb f 1)) false

-- the rows of blocks 1 to n
unfoldable pub rows_ok : List ℕ → List ℕ → ℕ → Bool
rows_ok sigs links zero = true
rows_ok sigs links (suc n) =
    pick (rows_ok sigs links n) (row_ok (width_of links) (signature_of sigs (suc n)) (next_of links (suc n)) (filed_of links (suc n))) false

-- all rows: how many are filed, where each is fit
abbrev pub rows_twin : List ℕ → List ℕ → Option ℕ
rows_twin sigs links = pick (rows_ok sigs links (length sigs)) (Some (filed_up_to links (length sigs))) None

-- Chains. Block b, not 0, may stand on the chain of signature s
unfoldable pub block_ok : List ℕ → List ℕ → ℕ → ℕ → Bool
block_ok sigs links s b = pick (ltb (length sigs) b) false (pick (eqb (filed_of links b) 1) (eqb (signature_of sigs b) s) false)

-- the chain from block b on, of signature s, with k blocks lent: the blocks left, where it is fit
unfoldable pub chain_twin : ℕ → List ℕ → List ℕ → ℕ → ℕ → Option ℕ
chain_twin zero sigs links s b = pick (eqb b 0) (Some 0) None
chain_twin (suc k) sigs links s b =
    pick (eqb b 0) (Some (suc k)) (pick (block_ok sigs links s b) (chain_twin k sigs links s (next_of links b)) None)

-- The path from the root: the positions tested on it as a mask, and those of them where the right edge was taken
pub record Tested : Type 0 where
  pub mask : ℕ
  pub edges : ℕ

-- as the code has it: the numbers in the first words, as many as a signature has
abbrev pub tested_in : List ℕ → Path → Tested
tested_in links path = record { mask = number_in (take (word_count (width_of links)) path.mask); edges = number_in (take (word_count (width_of links)) path.edges) }

-- A node that may stand below a path: the weight of its position, and its two references
pub record Weighed : Type 0 where
  pub weight : ℕ
  pub left : ℕ
  pub right : ℕ

-- as the code has it, with the position
abbrev pub weighed : Option Node → Option Weighed
weighed None = None
weighed (Some d) = Some (record { weight = 2 ^ (d.position.width - d.position.number); left = d.left; right = d.right })

-- The walk: what a part of the tree leaves of the nodes and blocks lent to it, where it is fit. A leaf leaves what its chain leaves
abbrev pub leaf_of : Lent → Option ℕ → Option Lent
leaf_of lent None = None
leaf_of lent (Some left) = Some (record { nodes = lent.nodes; blocks = left })

-- a leaf: its signature agrees with the edges at the tested positions, and its chain is fit
unfoldable pub leaf_twin : List ℕ → List ℕ → Tested → ℕ → Lent → Option Lent
leaf_twin sigs links t r lent =
    pick (eqb r 0) None
    (pick (eqb (bit_and (signature_of sigs r) t.mask) t.edges) (leaf_of lent (chain_twin lent.blocks sigs links (signature_of sigs r) r)) None)

-- node i of B - 1, with a position 1 to F that is not in the mask m
unfoldable pub look_twin : List ℕ → ℕ → ℕ → ℕ → Option Weighed
look_twin links B m i =
    pick (leb B i) None
    (pick (eqb (position_of B links i) 0) None
    (pick (ltb (width_of links) (position_of B links i)) None
    (pick (eqb (bit_at (width_of links) m (position_of B links i)) 1) None
    (Some (record { weight = 2 ^ (width_of links - position_of B links i); left = left_of B links i; right = right_of B links i })))))

-- one edge further, past a position of weight w: x is 0 for the left edge, w for the right
abbrev pub passed_by : Tested → ℕ → ℕ → Tested
passed_by t w x = record { mask = bit_or t.mask w; edges = bit_or t.edges x }

abbrev pub node_less : Lent → Lent
node_less lent = record { nodes = lent.nodes - 1; blocks = lent.blocks }

-- the right side, which is lent what the left side leaves
abbrev pub then_right : (Lent → Option Lent) → Option Lent → Option Lent
then_right right None = None
then_right right (Some left) = right left

-- the two sides of node d below t; `again` visits a side
abbrev pub sides_twin : (Tested → ℕ → Lent → Option Lent) → Tested → Weighed → Lent → Option Lent
sides_twin again t d lent =
    then_right (again (passed_by t d.weight d.weight) d.right) (again (passed_by t d.weight 0) d.left (node_less lent))

-- the same where a node is lent and may stand here
abbrev pub node_twin : (Tested → ℕ → Lent → Option Lent) → Tested → Option Weighed → Lent → Option Lent
node_twin again t None lent = None
node_twin again t (Some d) lent = pick (eqb lent.nodes 0) None (sides_twin again t d lent)

-- the subtree at reference r below the tested positions t, with u positions untested
unfoldable pub walk_twin : ℕ → List ℕ → List ℕ → Tested → ℕ → Lent → Option Lent
walk_twin zero sigs links t r lent = pick (leb r (length sigs)) (leaf_twin sigs links t r lent) None
walk_twin (suc u) sigs links t r lent =
    pick (leb r (length sigs)) (leaf_twin sigs links t r lent)
    (node_twin (walk_twin u sigs links) t (look_twin links (length sigs) t.mask (r - length sigs)) lent)

-- at the root no position is tested
abbrev pub untested_all : Tested
untested_all = record { mask = 0; edges = 0 }

-- the tree from the root
unfoldable pub tree_twin : List ℕ → List ℕ → Lent → Option Lent
tree_twin sigs links lent =
    pick (eqb (root_of links) 0) (Some lent) (walk_twin (width_of links) sigs links untested_all (root_of links) lent)

-- The free chain. Node i may stand on it
unfoldable pub free_ok : List ℕ → ℕ → ℕ → Bool
free_ok links B i = pick (eqb i 0) false (pick (leb B i) false (pick (eqb (position_of B links i) 0) (eqb (right_of B links i) 0) false))

-- what it leads to, where it may
abbrev pub after_free : List ℕ → ℕ → ℕ → Option ℕ
after_free links B i = pick (free_ok links B i) (Some (left_of B links i)) None

-- the free chain from node i: exactly k nodes
unfoldable pub free_twin : ℕ → List ℕ → ℕ → ℕ → Bool
free_twin zero links B i = eqb i 0
free_twin (suc k) links B i = pick (free_ok links B i) (free_twin k links B (left_of B links i)) false

-- The verdict. After the tree: no block is left of those filed, and as many free nodes as the tree left
abbrev pub rest_ok : List ℕ → ℕ → Option Lent → Bool
rest_ok links B None = false
rest_ok links B (Some left) = pick (eqb left.blocks 0) (free_twin left.nodes links B (free_of links)) false

-- what the tree is lent: all nodes, and as many blocks as are filed
abbrev pub lent_tree : List ℕ → List ℕ → Lent
lent_tree sigs links = record { nodes = length sigs - 1; blocks = count_of links }

-- tables that fit are sound
unfoldable pub soundb : List ℕ → List ℕ → Bool
soundb sigs links =
    pick (rows_ok sigs links (length sigs))
    (pick (eqb (count_of links) (filed_up_to links (length sigs))) (rest_ok links (length sigs) (tree_twin sigs links (lent_tree sigs links))) false)
    false

-- the audit of the words as they are lent: 4 where question 4 says no, 0 where the tables are sound, else 11
unfoldable pub audit_twin : List ℕ → List ℕ → ℕ
audit_twin words links = pick (tables_fit (asks_tables words links)) (pick (soundb (signatures_of words links) links) 0 unsound) 4
