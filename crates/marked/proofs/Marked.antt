-- The marked set (document 01, "Edges and a run"), by computation: the ten steps of the first run and the tree of the second, by the
-- ledger and the plain tree, and on the words of an index of 1,024 blocks whose words are all 0 at the start, with three words to a node
-- and with one.
-- Assumes nothing.
use Prim.Native.Nat.{ℕ}
use mathlib.Core.Path.{◌≡◌, refl}
use mathlib.Core.List.{List, [], ◌∷◌}
use lib.ListN.{replicate}
use Rattle.model.specs.Basics.{up_from, keep, has, once}
use Rattle.model.specs.Signature.{coversb, difference_from}
use Rattle.model.specs.Tree.{Tree, nothing, leaf, node, split, insert, join, remove, signatures, path, no_zero_edge, compared, nodes_read}
use Rattle.model.specs.Build.{smaller, best_of, build_within}
use Rattle.model.specs.Tables.{tree_from}
use Rattle.model.specs.Packed.{opened, closed, unpacked}
use Rattle.model.specs.Clear.{free_from, free_nodes, clear_links}
use Rattle.model.specs.File.{spot_from, file_stores, file_links}
use Rattle.model.specs.Withdraw.{block_before, parent_from, withdraw_stores, withdraw_links}
use Rattle.model.specs.Rebuild.{heads_from, group_nodes, group_links}
use Rattle.model.specs.Wide.{number_in, signatures_in}
use Rattle.model.specs.Questions.{ask, clear_refusal, file_refusal, withdraw_refusal, rebuild_refusal, search_refusal, Work, number_at, words_at, ask_slip, ask_kind, read_kind, read_slip}
use Rattle.model.specs.Ledger.{empty_ledger, matching_from, entry_in, entries_from}
use Rattle.model.specs.Lines.{slip_of, lines_by, tree_by, lines_on, tree_on, lines_packed, tree_packed, longest_path}

-- clear 4; file 1 = 1011, 2 = 0110, 3 = 1110, 4 = 0110; search 0010; search 1000; withdraw 2; search 0110; file 3 again
unfoldable pub run : List (List ℕ)
run =
    slip_of 0 4 0
    ∷ slip_of 1 1 0b1011
    ∷ slip_of 1 2 0b0110
    ∷ slip_of 1 3 0b1110
    ∷ slip_of 1 4 0b0110
    ∷ slip_of 4 0 0b0010
    ∷ slip_of 4 0 0b1000
    ∷ slip_of 2 2 0
    ∷ slip_of 4 0 0b0110
    ∷ slip_of 1 3 0b1110
    ∷ []

unfoldable pub lines : List (List ℕ)
lines =
    (0 ∷ 0 ∷ 0 ∷ 0 ∷ 0 ∷ [])
    ∷ (1 ∷ 0 ∷ 0 ∷ 0 ∷ 0 ∷ [])
    ∷ (1 ∷ 0 ∷ 0 ∷ 0 ∷ 0 ∷ [])
    ∷ (1 ∷ 0 ∷ 0 ∷ 0 ∷ 0 ∷ [])
    ∷ (1 ∷ 0 ∷ 0 ∷ 0 ∷ 0 ∷ [])
    ∷ (4 ∷ 0 ∷ 4 ∷ 3 ∷ 2 ∷ 1 ∷ 2 ∷ 3 ∷ 4 ∷ [])
    ∷ (4 ∷ 0 ∷ 2 ∷ 2 ∷ 2 ∷ 1 ∷ 3 ∷ [])
    ∷ (2 ∷ 0 ∷ 0 ∷ 0 ∷ 0 ∷ [])
    ∷ (4 ∷ 0 ∷ 2 ∷ 2 ∷ 2 ∷ 3 ∷ 4 ∷ [])
    ∷ (1 ∷ 7 ∷ 0 ∷ 0 ∷ 0 ∷ [])
    ∷ []

-- from another clear 4, blocks 1 to 4 filed as 1000, 1100, 1110, 1111 in turn, and the same rebuilt
unfoldable pub filings : List (List ℕ) → List (List ℕ)
filings rest = slip_of 0 4 0 ∷ slip_of 1 1 0b1000 ∷ slip_of 1 2 0b1100 ∷ slip_of 1 3 0b1110 ∷ slip_of 1 4 0b1111 ∷ rest

-- position 3 at the root, 2 left, 4 right
unfoldable pub rebuilt : Tree
rebuilt = node 3 (node 2 (leaf 0b1000) (leaf 0b1100)) (node 4 (leaf 0b1110) (leaf 0b1111))

-- the slices lent to work in
unfoldable pub lent : Work
lent = record { scratch = replicate 1024 0; marks = replicate 1024 0; output = replicate 1024 0 }

-- the tables at the start
unfoldable pub blank : List ℕ
blank = replicate 1024 0

unfoldable pub blank_links : List ℕ
blank_links = replicate 5122 0

unfoldable pub blank_rows : List ℕ
blank_rows = replicate 2053 0

unfoldable pub blank_nodes : List ℕ
blank_nodes = replicate 1023 0

pub record MarkedSet : Type 0 where
  pub run_ledger : lines_by 1024 lent (empty_ledger 1024 0) nothing run ≡ lines
  pub run_tables : lines_on lent run blank blank_links ≡ lines
  pub run_packed : lines_packed lent run blank blank_rows blank_nodes ≡ lines
  pub filed_ledger : longest_path (tree_by 1024 lent (empty_ledger 1024 0) nothing (filings [])) (0b1000 ∷ 0b1100 ∷ 0b1110 ∷ 0b1111 ∷ []) ≡ 3
  pub filed_tables : longest_path (tree_on lent (filings []) blank blank_links) (0b1000 ∷ 0b1100 ∷ 0b1110 ∷ 0b1111 ∷ []) ≡ 3
  pub filed_packed : longest_path (tree_packed lent (filings []) blank blank_rows blank_nodes) (0b1000 ∷ 0b1100 ∷ 0b1110 ∷ 0b1111 ∷ []) ≡ 3
  pub rebuilt_ledger : tree_by 1024 lent (empty_ledger 1024 0) nothing (filings (slip_of 3 0 0 ∷ [])) ≡ rebuilt
  pub rebuilt_tables : tree_on lent (filings (slip_of 3 0 0 ∷ [])) blank blank_links ≡ rebuilt
  pub rebuilt_packed_is : tree_packed lent (filings (slip_of 3 0 0 ∷ [])) blank blank_rows blank_nodes ≡ rebuilt

pub marked_set : MarkedSet
unfolding number_in signatures_in words_at ask_kind slip_of run lines filings rebuilt lent blank blank_links blank_rows blank_nodes opened closed unpacked lines_packed tree_packed up_from keep has once coversb difference_from split insert join remove signatures path no_zero_edge compared nodes_read smaller best_of build_within tree_from free_from free_nodes clear_links spot_from file_stores file_links block_before parent_from withdraw_stores withdraw_links heads_from group_nodes group_links ask clear_refusal file_refusal withdraw_refusal rebuild_refusal search_refusal number_at ask_slip read_kind read_slip matching_from entry_in entries_from lines_by tree_by lines_on tree_on longest_path
marked_set = record { run_ledger = refl; run_tables = refl; run_packed = refl; filed_ledger = refl; filed_tables = refl; filed_packed = refl; rebuilt_ledger = refl; rebuilt_tables = refl; rebuilt_packed_is = refl }
