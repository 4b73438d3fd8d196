-- The walk of a search as a function of the tables' lists, and what it leaves: what the code does on any tables, step for step.
-- A search is lent as many nodes, forks and blocks as sound tables can need. It counts them down, and stops where they run out.
-- Assumes nothing.
use Rattle.std.specs.Prelude.{ℕ, zero, suc, ◌+◌, ◌-◌, ◌*◌, ◌/◌, ◌%◌, ◌^◌, min, Bool, true, false, List, eqb, leb, ltb, length, get_or}
use Rattle.model.specs.Basics.{pick}
use Rattle.model.specs.Limits.{word_bits}
use Rattle.model.specs.Wide.{word_count}
use Rattle.model.specs.Signature.{coversb}
use Rattle.model.specs.Tables.{width_of, root_of, next_of, filed_of, position_of, left_of, right_of, signature_of}
use Rattle.model.specs.Packed.{position_in, left_in, right_in}
use Rattle.model.specs.Ledger.{Report, bare}
use Rattle.model.specs.Promises.{unsound, output_after}
use Rattle.search.specs.Budget.{Budget, unfit, lent, node_less, fork_less}
use Rattle.search.specs.Marks.{is_marked, mark, listed, cleared}

-- block b may be marked: it is 1 to B, filed, not yet marked, and its signature covers q
unfoldable pub may_mark : List ℕ → List ℕ → ℕ → ℕ → List ℕ → Bool
may_mark sigs links q b m =
    pick (eqb b 0) false
    (pick (ltb (length sigs) b) false
    (pick (eqb (filed_of links b) 0) false
    (pick (is_marked m b) false (coversb (width_of links) (signature_of sigs b) q))))

-- one block of a chain: its end, a block that may be marked, or one that may not; `again` goes on from the next block
abbrev pub chain_step : (ℕ → List ℕ → Budget × List ℕ) → Bool → Bool → ℕ → Budget → ℕ → List ℕ → Budget × List ℕ
chain_step again true may next l b m = (l, m)
chain_step again false true next l b m = again next (mark m b)
chain_step again false false next l b m = (unfit, m)

-- the chain from block b on, with n, f and k left
unfoldable pub chain_twin : List ℕ → List ℕ → ℕ → ℕ → ℕ → ℕ → ℕ → List ℕ → Budget × List ℕ
chain_twin sigs links q n f zero b m = pick (eqb b 0) (record { nodes = n; forks = f; blocks = 0 }, m) (unfit, m)
chain_twin sigs links q n f (suc k) b m =
    chain_step (chain_twin sigs links q n f k) (eqb b 0) (may_mark sigs links q b m) (next_of links b) (record { nodes = n; forks = f; blocks = suc k }) b m

-- a leaf: its chain, where its signature covers q
unfoldable pub leaf_twin : List ℕ → List ℕ → ℕ → ℕ → Budget → List ℕ → Budget × List ℕ
leaf_twin sigs links q r l m =
    pick (eqb r 0) (unfit, m)
    (pick (coversb (width_of links) (signature_of sigs r) q) (chain_twin sigs links q l.nodes l.forks l.blocks r m) (l, m))

-- how far from the right the bit of position p stands; of a position that is none of 1 to F, a difference that wraps at 2 ^ 32
abbrev pub from_right : ℕ → ℕ → ℕ
from_right F p = (F + (2 ^ 32 - p)) % 2 ^ 32

-- and where it is read: there, or in the high word where that is beyond all words
abbrev pub read_at : ℕ → ℕ → ℕ
read_at F p = word_bits * min (from_right F p / word_bits) (word_count F - 1) + from_right F p % word_bits

-- The side of a query at a node that tests position p: its bit there. A position that is none of 1 to F, on unsound tables, gives some bit:
-- no position is refused, since the walk ends without that.
unfoldable pub side_at : ℕ → ℕ → ℕ → ℕ
side_at F q p = q / 2 ^ read_at F p % 2

-- the index of a leaf's signature; reference 0, which is none, gets one that no slice has
abbrev pub index_of : ℕ → ℕ
index_of r = pick (eqb r 0) 18446744073709551615 (r - 1)

-- is reference r, of B blocks, a leaf?
abbrev pub is_leaf : ℕ → ℕ → Bool
is_leaf B r = ltb (index_of r) B

-- Is the right side y visited before the left side x? Where it alone is a leaf: a leaf costs no call, and what is done before a call need
-- not wait for it.
abbrev pub right_first : ℕ → ℕ → ℕ → Bool
right_first B x y = pick (is_leaf B x) false (is_leaf B y)

-- one side after the other; `again` visits a side
abbrev pub in_turn : (ℕ → Budget → List ℕ → Budget × List ℕ) → ℕ → ℕ → Budget → List ℕ → Budget × List ℕ
in_turn again x y l m = let a : Budget × List ℕ = again x l m in again y a.0 a.1

-- a node that tests position p and has the sides x and y: one node read, and the sides that the query visits
abbrev pub node_twin : (ℕ → Budget → List ℕ → Budget × List ℕ) → ℕ → ℕ → ℕ → ℕ → ℕ → ℕ → Budget → List ℕ → Budget × List ℕ
node_twin again F B q p x y l m =
    pick (eqb l.nodes 0) (unfit, m)
    (pick (eqb (side_at F q p) 1) (again y (node_less l) m)
    (pick (right_first B x y) (in_turn again y x (fork_less l) m) (in_turn again x y (fork_less l) m)))

-- the subtree at reference r, with u positions untested
unfoldable pub walk_twin : ℕ → List ℕ → List ℕ → ℕ → ℕ → Budget → List ℕ → Budget × List ℕ
walk_twin zero sigs links q r l m = pick (leb r (length sigs)) (leaf_twin sigs links q r l m) (unfit, m)
walk_twin (suc u) sigs links q r l m =
    let i : ℕ = r - length sigs in
    pick (leb r (length sigs)) (leaf_twin sigs links q r l m)
    (pick (leb (length sigs) i) (unfit, m)
    (node_twin (walk_twin u sigs links q) (width_of links) (length sigs) q (position_of (length sigs) links i) (left_of (length sigs) links i) (right_of (length sigs) links i) l m))

-- the word of the node that reference r leads to, or 0, whose sides are none, where there is no such node
unfoldable pub word_at : ℕ → List ℕ → ℕ → ℕ
word_at B nodes r = pick (leb r B) 0 (pick (leb B (r - B)) 0 (get_or nodes (r - B - 1) 0))

-- the subtree at a node with word w, with u positions untested
unfoldable pub word_twin : ℕ → List ℕ → List ℕ → ℕ → ℕ → Budget → List ℕ → Budget × List ℕ
word_twin zero sigs links q w l m = (unfit, m)
word_twin (suc u) sigs links q w l m = node_twin (walk_twin u sigs links q) (width_of links) (length sigs) q (position_in w) (left_in w) (right_in w) l m

-- what a search of B blocks leaves after a walk that left w: the report, the marks and the output
abbrev pub list_twin : ℕ → Budget × List ℕ → List ℕ → Report × List ℕ × List ℕ
list_twin B w output = (
  record { answer = 0; found = B - w.0.blocks; compares = B - w.0.forks + 1; bits = B - 1 - w.0.nodes },
  w.1,
  output_after (listed B w.1) output,
)

-- a search that no question refuses
unfoldable pub found_twin : List ℕ → List ℕ → ℕ → List ℕ → List ℕ → Report × List ℕ × List ℕ
found_twin sigs links q marks output =
    let z : List ℕ = cleared (length sigs) marks in
    let w : Budget × List ℕ = walk_twin (width_of links) sigs links q (root_of links) (lent (length sigs)) z in
    pick (eqb (root_of links) 0) (bare 0, z, output) (pick (eqb w.0.forks 0) (bare unsound, w.1, output) (list_twin (length sigs) w output))
