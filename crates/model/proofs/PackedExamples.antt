-- Worked examples of packed tables, by computation.
-- Assumes nothing.
use Prim.Native.Nat.{◌-◌, ◌^◌}
use mathlib.Core.Path.{◌≡◌, refl}
use mathlib.Core.List.{[], ◌∷◌}
use Rattle.model.specs.Packed.{node_word, opened, closed, unpacked, packed_links, packed_nodes}

-- position 1, block 2 on the left, node 2 of five blocks on the right
word_of_a_node : node_word 1 2 7 ≡ 17180131335
word_of_a_node = refl

-- the largest references of 65,535 blocks, at the last position of 64
largest_word : opened (node_word 64 131069 131068 ∷ []) ≡ 64 ∷ 131069 ∷ 131068 ∷ []
unfolding opened
largest_word = refl

-- every bit set: any word unpacks to something
all_ones : opened ((2 ^ 64 - 1) ∷ []) ≡ (2 ^ 30 - 1) ∷ (2 ^ 17 - 1) ∷ (2 ^ 17 - 1) ∷ []
unfolding opened
all_ones = refl

-- two blocks below one node, which tests position 3: both forms, there and back
two_blocks : unpacked (4 ∷ 2 ∷ 3 ∷ 0 ∷ 2 ∷ 0 ∷ 1 ∷ 0 ∷ 1 ∷ []) (51539738626 ∷ []) ≡ 4 ∷ 2 ∷ 3 ∷ 0 ∷ 2 ∷ 0 ∷ 1 ∷ 0 ∷ 1 ∷ 3 ∷ 1 ∷ 2 ∷ []
unfolding unpacked opened
two_blocks = refl

two_rows : packed_links 2 (4 ∷ 2 ∷ 3 ∷ 0 ∷ 2 ∷ 0 ∷ 1 ∷ 0 ∷ 1 ∷ 3 ∷ 1 ∷ 2 ∷ []) ≡ 4 ∷ 2 ∷ 3 ∷ 0 ∷ 2 ∷ 0 ∷ 1 ∷ 0 ∷ 1 ∷ []
two_rows = refl

one_node : packed_nodes 2 (4 ∷ 2 ∷ 3 ∷ 0 ∷ 2 ∷ 0 ∷ 1 ∷ 0 ∷ 1 ∷ 3 ∷ 1 ∷ 2 ∷ []) ≡ 51539738626 ∷ []
unfolding closed
one_node = refl
