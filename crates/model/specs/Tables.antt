-- The tables (document 01, "The tables"): the words of the two lent slices, as lists. B is the number of blocks, told from the links.
-- One place knows where a word stands; all else reads rows, nodes and signatures through the readers below. The signatures are read as
-- the list of their B numbers, whatever the width: `signatures_of` is the step from the lent words to them.
-- Assumes nothing.
use Rattle.std.specs.Prelude.{ℕ, zero, suc, ◌+◌, ◌-◌, ◌*◌, true, false, List, eqb, leb, length, get_or, ◌/◌}
use Rattle.model.specs.Wide.{word_count, signatures_in}
use Rattle.model.specs.Tree.{Tree, nothing, leaf, node}

-- word a of the links
abbrev pub word : List ℕ → ℕ → ℕ
word links a = get_or links a 0

-- Addresses. Words 0 to 4 are F, B, root, first free node, count of filed blocks.
abbrev pub root_at : ℕ
root_at = 2

abbrev pub free_at : ℕ
free_at = 3

abbrev pub count_at : ℕ
count_at = 4

-- the row of block b, 1 to B: next block, filed
abbrev pub next_at : ℕ → ℕ
next_at b = 2 * b + 3

abbrev pub filed_at : ℕ → ℕ
filed_at b = 2 * b + 4

-- node i, 1 to B - 1: position, left, right; side e is 0 for left, 1 for right
abbrev pub position_at : ℕ → ℕ → ℕ
position_at B i = 2 * B + 3 * i + 2

abbrev pub side_at : ℕ → ℕ → ℕ → ℕ
side_at B i e = 2 * B + 3 * i + (3 + e)

abbrev pub left_at : ℕ → ℕ → ℕ
left_at B i = side_at B i 0

abbrev pub right_at : ℕ → ℕ → ℕ
right_at B i = side_at B i 1

-- how many links B blocks have
abbrev pub links_of : ℕ → ℕ
links_of B = 5 * B + 2

-- B, told from the links
abbrev pub blocks_of : List ℕ → ℕ
blocks_of links = (length links - 2) / 5

-- Readers.
abbrev pub width_of : List ℕ → ℕ
width_of links = word links 0

abbrev pub told_blocks : List ℕ → ℕ
told_blocks links = word links 1

abbrev pub root_of : List ℕ → ℕ
root_of links = word links root_at

abbrev pub free_of : List ℕ → ℕ
free_of links = word links free_at

abbrev pub count_of : List ℕ → ℕ
count_of links = word links count_at

abbrev pub next_of : List ℕ → ℕ → ℕ
next_of links b = word links (next_at b)

abbrev pub filed_of : List ℕ → ℕ → ℕ
filed_of links b = word links (filed_at b)

abbrev pub position_of : ℕ → List ℕ → ℕ → ℕ
position_of B links i = word links (position_at B i)

abbrev pub side_of : ℕ → List ℕ → ℕ → ℕ → ℕ
side_of B links i e = word links (side_at B i e)

abbrev pub left_of : ℕ → List ℕ → ℕ → ℕ
left_of B links i = side_of B links i 0

abbrev pub right_of : ℕ → List ℕ → ℕ → ℕ
right_of B links i = side_of B links i 1

-- the B signatures that the words of the signature slice spell, as numbers
abbrev pub signatures_of : List ℕ → List ℕ → List ℕ
signatures_of words links = signatures_in (word_count (width_of links)) (blocks_of links) words

-- block b's signature, at index b - 1 of them
abbrev pub signature_of : List ℕ → ℕ → ℕ
signature_of sigs b = get_or sigs (b - 1) 0

-- The plain tree from reference r: 0 is nothing, 1 to B a leaf by its signature, B + i node i; n bounds the nodes on a path.
unfoldable pub tree_from : ℕ → List ℕ → List ℕ → ℕ → ℕ → Tree
tree_from B sigs links zero r = elim (eqb r 0) [ true ↦ nothing | false ↦ leaf (signature_of sigs r) ]
tree_from B sigs links (suc n) r =
    elim (eqb r 0) [
      | true ↦ nothing
      | false ↦ elim (leb r B) [
        | true ↦ leaf (signature_of sigs r)
        | false ↦ node (position_of B links (r - B)) (tree_from B sigs links n (left_of B links (r - B))) (tree_from B sigs links n (right_of B links (r - B)))
      ]
    ]

-- the tree from the tables' root, each leaf by its signature; a path of sound tables has at most F nodes
abbrev pub tree_of : List ℕ → List ℕ → Tree
tree_of sigs links = tree_from (length sigs) sigs links (width_of links) (root_of links)
