-- The audit computed: on tables as clear and four filings leave them, and on the same spoilt at one word.
-- Assumes nothing.
use Prim.Native.Nat.{ℕ}
use mathlib.Core.Path.{◌≡◌, refl}
use mathlib.Core.List.{List, [], ◌∷◌}
use lib.ListN.{set}
use Rattle.model.specs.Signature.{difference_from}
use Rattle.model.specs.Wide.{number_in, signatures_in}
use Rattle.model.specs.Tables.{signatures_of}
use Rattle.model.specs.Clear.{clear_words, clear_links, free_from, free_nodes}
use Rattle.model.specs.File.{file_words, file_links, file_stores, spot_from}
use Rattle.audit.specs.Audit.{audit_twin, soundb, rows_ok, row_ok, tree_twin, walk_twin, leaf_twin, look_twin, chain_twin, block_ok, free_twin, free_ok}

data Tables : Type 0 where
  tables : List ℕ → List ℕ → Tables

-- cleared tables of B blocks and width F
clear : ℕ → ℕ → Tables
clear B F = tables (clear_words B F) (clear_links B F)

filed : Tables → ℕ → List ℕ → Tables
filed (tables S L) b s = tables (file_words S L b s) (file_links (signatures_of S L) L b (number_in s))

-- a word of the links stored over, or one of the signatures
spoilt : Tables → ℕ → ℕ → Tables
spoilt (tables S L) a v = tables S (set L a v)

respelt : Tables → ℕ → ℕ → Tables
respelt (tables S L) a v = tables (set S a v) L

-- what the audit answers, in order
audits : List Tables → List ℕ
audits [] = []
audits (tables S L ∷ ts) = audit_twin S L ∷ audits ts

one : ℕ → List ℕ
one w = w ∷ []

two : ℕ → ℕ → List ℕ
two w x = w ∷ x ∷ []

-- blocks 1 to 4 filed as 1011, 0110, 1110, 0110, of 5: nodes 1 and 2 stand in the tree, and the chain of 0110 is 2, 4
run : Tables
run = filed (filed (filed (filed (clear 5 4) 1 (one 0b1011)) 2 (one 0b0110)) 3 (one 0b1110)) 4 (one 0b0110)

-- the same at width 70, so that the position that parts 3 from 2 and 4 is in the low word, and the other in the high word
wide : Tables
wide = filed (filed (filed (filed (clear 5 70) 1 (two 0b000001 0)) 2 (two 0b100000 0b01)) 3 (two 0b100000 0b11)) 4 (two 0b100000 0b01)

sound : List Tables
sound = clear 1 4 ∷ clear 5 4 ∷ filed (clear 5 4) 3 (one 0b0000) ∷ run ∷ wide ∷ []

-- width 0, width 65, blocks told 4, no blocks; width 513, and 64, of which the words are too few and too many
unfit : List Tables
unfit = spoilt run 0 0 ∷ spoilt run 0 65 ∷ spoilt run 1 4 ∷ tables [] (4 ∷ 0 ∷ []) ∷ spoilt wide 0 513 ∷ spoilt wide 0 64 ∷ []

-- width 3; root 0, root 10; a free node forgotten; count 3
front : List Tables
front = spoilt run 0 3 ∷ spoilt run 2 0 ∷ spoilt run 2 10 ∷ spoilt run 3 4 ∷ spoilt run 4 3 ∷ []

-- block 2's chain cut, and made a ring; block 5 filed; node 2 at node 1's position; a free node's position
inside : List Tables
inside = spoilt run 7 0 ∷ spoilt run 11 2 ∷ spoilt run 14 1 ∷ spoilt run 18 1 ∷ spoilt run 21 1 ∷ []

-- an unused bit set; block 3's low word off its path; block 4's other than block 2's; a low word of a block that is not filed
spelt : List Tables
spelt = respelt wide 0 0b1000001 ∷ respelt wide 5 0b01 ∷ respelt wide 7 0b101 ∷ respelt wide 9 1 ∷ []

computed : (audits sound ≡ 0 ∷ 0 ∷ 0 ∷ 0 ∷ 0 ∷ [])
    × (audits unfit ≡ 4 ∷ 4 ∷ 4 ∷ 4 ∷ 4 ∷ 4 ∷ [])
    × (audits front ≡ 11 ∷ 11 ∷ 11 ∷ 11 ∷ 11 ∷ [])
    × (audits inside ≡ 11 ∷ 11 ∷ 11 ∷ 11 ∷ 11 ∷ [])
    × (audits spelt ≡ 11 ∷ 11 ∷ 11 ∷ 11 ∷ [])
unfolding signatures_in number_in audits sound unfit front inside spelt spoilt respelt clear run wide one two filed clear_links free_from free_nodes file_links file_stores spot_from difference_from audit_twin soundb rows_ok row_ok tree_twin walk_twin leaf_twin look_twin chain_twin block_ok free_twin free_ok
computed = (refl, refl, refl, refl, refl)
