-- One word per node (Ticket 11). The tables of 5 * B + 2 links stay the definitions: Sound, the tree, and what each call
-- leaves are said of them. The packed form holds the same tables in other slices: 2 * B + 5 links, and a word for each of B - 1 nodes.
-- Assumes nothing.
use Rattle.std.specs.Prelude.{ℕ, zero, suc, ◌+◌, ◌-◌, ◌*◌, ◌/◌, ◌%◌, ◌^◌, List, [], ◌∷◌, ◌++◌, ◌≡◌, length, take, drop}

-- a node's word: position times 2 ^ 34, plus left times 2 ^ 17, plus right
abbrev pub node_word : ℕ → ℕ → ℕ → ℕ
node_word position left right = position * 2 ^ 34 + left * 2 ^ 17 + right

-- its parts; any number has them
abbrev pub position_in : ℕ → ℕ
position_in w = w / 2 ^ 34

abbrev pub left_in : ℕ → ℕ
left_in w = w / 2 ^ 17 % 2 ^ 17

abbrev pub right_in : ℕ → ℕ
right_in w = w % 2 ^ 17

-- part k of a word, and the word with part k changed: 0 is the position, 1 the left, 2 the right
unfoldable pub part_in : ℕ → ℕ → ℕ
part_in w zero = position_in w
part_in w (suc zero) = left_in w
part_in w (suc (suc k)) = right_in w

unfoldable pub with_part : ℕ → ℕ → ℕ → ℕ
with_part w zero v = node_word v (left_in w) (right_in w)
with_part w (suc zero) v = node_word (position_in w) v (right_in w)
with_part w (suc (suc k)) v = node_word (position_in w) (left_in w) v

-- the three words of each node, and back
unfoldable pub opened : List ℕ → List ℕ
opened [] = []
opened (w ∷ ws) = position_in w ∷ left_in w ∷ right_in w ∷ opened ws

unfoldable pub closed : List ℕ → List ℕ
closed [] = []
closed (p ∷ []) = []
closed (p ∷ l ∷ []) = []
closed (p ∷ l ∷ r ∷ ws) = node_word p l r ∷ closed ws

-- how many links the packed form has: the five words and the rows
abbrev pub rows_of : ℕ → ℕ
rows_of B = 2 * B + 5

-- B, told from them
abbrev pub packed_blocks : List ℕ → ℕ
packed_blocks links = (length links - 5) / 2

-- the tables of 5 * B + 2 links that packed ones hold
unfoldable pub unpacked : List ℕ → List ℕ → List ℕ
unpacked links nodes = links ++ opened nodes

-- and back
abbrev pub packed_links : ℕ → List ℕ → List ℕ
packed_links B links = take (rows_of B) links

abbrev pub packed_nodes : ℕ → List ℕ → List ℕ
packed_nodes B links = closed (drop (rows_of B) links)

-- the slices of packed tables of B blocks are so long
pub record Packs (B : ℕ) (links nodes : List ℕ) : Type 0 where
  pub rows_long : length links ≡ rows_of B
  pub nodes_long : length nodes + 1 ≡ B
