-- The tables that Clear leaves (document 01, "The calls").
-- Assumes nothing.
use Rattle.std.specs.Prelude.{ℕ, zero, suc, ◌-◌, ◌*◌, true, false, List, [], ◌∷◌, ◌++◌, ltb, replicate}
use Rattle.model.specs.Wide.{word_count}

-- node i where B blocks have such a node, else nothing: the first of the free nodes from i on
unfoldable pub free_from : ℕ → ℕ → ℕ
free_from B i = elim (ltb i B) [ true ↦ i | false ↦ 0 ]

-- the words of n free nodes from i on, ascending: position and right 0, chained by the left word, zero ending
unfoldable pub free_nodes : ℕ → ℕ → List ℕ
free_nodes zero i = []
free_nodes (suc zero) i = 0 ∷ 0 ∷ 0 ∷ []
free_nodes (suc (suc n)) i = 0 ∷ suc i ∷ 0 ∷ free_nodes (suc n) (suc i)

-- all signatures 0
abbrev pub clear_signatures : ℕ → List ℕ
clear_signatures B = replicate B 0

-- and their words, of the new width
abbrev pub clear_words : ℕ → ℕ → List ℕ
clear_words B F = replicate (B * word_count F) 0

-- words 0 and 1 are F and B, root and count 0, all rows 0, and the nodes chained free as 1, 2, .., B - 1
unfoldable pub clear_links : ℕ → ℕ → List ℕ
clear_links B F = F ∷ B ∷ 0 ∷ free_from B 1 ∷ 0 ∷ replicate (2 * B) 0 ++ free_nodes (B - 1) 1
