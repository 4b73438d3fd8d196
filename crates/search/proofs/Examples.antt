-- The two searches of document 01's run on the tables that hold its four blocks, the first once more where signatures have two words, and
-- one of tables whose chain is a ring.
-- Assumes nothing.
use Prim.Native.Nat.{ℕ}
use mathlib.Core.Path.{◌≡◌, refl}
use mathlib.Core.List.{List, [], ◌∷◌}
use lib.ListN.{set}
use Rattle.model.specs.Basics.{keep, up_from}
use Rattle.model.specs.Signature.{coversb}
use Rattle.model.specs.Ledger.{bare}
use Rattle.search.specs.Search.{may_mark, chain_twin, leaf_twin, side_at, walk_twin, found_twin}

abbrev sigs : List ℕ
sigs = 0b1011 ∷ 0b0110 ∷ 0b1110 ∷ 0b0110 ∷ []

-- words 0 to 4; next and filed of each block; position, left and right of each node
abbrev links : List ℕ
links = 4 ∷ 4 ∷ 5 ∷ 3 ∷ 4 ∷ 0 ∷ 1 ∷ 4 ∷ 1 ∷ 0 ∷ 1 ∷ 0 ∷ 1 ∷ 1 ∷ 2 ∷ 6 ∷ 2 ∷ 1 ∷ 3 ∷ 0 ∷ 0 ∷ 0 ∷ []

abbrev nines : List ℕ
nines = 9 ∷ 9 ∷ 9 ∷ 9 ∷ 9 ∷ []

first_search : found_twin sigs links 0b0010 nines nines
    ≡ (record { answer = 0; found = 4; compares = 3; bits = 2 }, 1 ∷ 1 ∷ 1 ∷ 1 ∷ 9 ∷ [], 1 ∷ 2 ∷ 3 ∷ 4 ∷ 9 ∷ [])
unfolding keep up_from coversb may_mark chain_twin leaf_twin side_at walk_twin found_twin
first_search = refl

second_search : found_twin sigs links 0b1000 nines nines
    ≡ (record { answer = 0; found = 2; compares = 2; bits = 2 }, 1 ∷ 0 ∷ 1 ∷ 0 ∷ 9 ∷ [], 1 ∷ 3 ∷ 9 ∷ 9 ∷ 9 ∷ [])
unfolding keep up_from coversb may_mark chain_twin leaf_twin side_at walk_twin found_twin
second_search = refl

-- the same signatures at width 70, where their bits stand at positions 67 to 70
wide_search : found_twin sigs (set (set (set links 0 70) 13 67) 16 68) 0b0010 nines nines
    ≡ (record { answer = 0; found = 4; compares = 3; bits = 2 }, 1 ∷ 1 ∷ 1 ∷ 1 ∷ 9 ∷ [], 1 ∷ 2 ∷ 3 ∷ 4 ∷ 9 ∷ [])
unfolding keep up_from coversb may_mark chain_twin leaf_twin side_at walk_twin found_twin
wide_search = refl

-- block 4 leads back to block 2: 11, and only the first B marks change
ring_search : found_twin sigs (set links 11 2) 0b0010 nines nines ≡ (bare 11, 0 ∷ 1 ∷ 0 ∷ 1 ∷ 9 ∷ [], nines)
unfolding keep up_from coversb may_mark chain_twin leaf_twin side_at walk_twin found_twin
ring_search = refl
