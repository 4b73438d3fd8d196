-- A run at width 70 by computation: two words to a signature, by the ledger and the plain tree, on the words of an index of four blocks
-- never cleared, and on its packed words. Two queries are told apart by the low word alone, two by the high word alone.
-- Assumes nothing.
use Prim.Native.Nat.{ℕ}
use mathlib.Core.Path.{◌≡◌, refl}
use mathlib.Core.List.{List, [], ◌∷◌, ◌++◌}
use lib.ListN.{replicate}
use Rattle.model.specs.Basics.{up_from, keep, has, once}
use Rattle.model.specs.Signature.{coversb, difference_from}
use Rattle.model.specs.Tree.{nothing, split, insert, join, remove, signatures, path, no_zero_edge, compared, nodes_read}
use Rattle.model.specs.Build.{smaller, best_of, build_within}
use Rattle.model.specs.Wide.{number_in, signatures_in}
use Rattle.model.specs.Tables.{tree_from}
use Rattle.model.specs.Packed.{opened, closed, unpacked}
use Rattle.model.specs.Clear.{free_from, free_nodes, clear_links}
use Rattle.model.specs.File.{spot_from, file_stores, file_links}
use Rattle.model.specs.Withdraw.{block_before, parent_from, withdraw_stores, withdraw_links}
use Rattle.model.specs.Rebuild.{heads_from, group_nodes, group_links}
use Rattle.model.specs.Questions.{ask, clear_refusal, file_refusal, withdraw_refusal, rebuild_refusal, search_refusal, Work, number_at, words_at, ask_slip, ask_kind, read_kind, read_slip}
use Rattle.model.specs.Ledger.{empty_ledger, matching_from, entry_in, entries_from}
use Rattle.model.specs.Lines.{slip_of, lines_by, lines_on, lines_packed}

-- a slip of two words, of which each is a number below 256
unfoldable wide_slip : ℕ → ℕ → ℕ → ℕ → List ℕ
wide_slip kind block high low = (kind ∷ replicate 6 0) ++ (block ∷ replicate 7 0) ++ (high ∷ replicate 7 0) ++ (low ∷ [])

-- clear 70; file 1 = (5, 9), 2 = (5, 8), 3 = (4, 9); a signature of 71 bits; search (0, 1); search (1, 0); search (1, 1); withdraw 1; rebuild;
-- search (0, 9); a slip of one word
unfoldable run : List (List ℕ)
run =
    slip_of 0 70 0
    ∷ wide_slip 1 1 5 9
    ∷ wide_slip 1 2 5 8
    ∷ wide_slip 1 3 4 9
    ∷ wide_slip 1 4 64 0
    ∷ wide_slip 4 0 0 1
    ∷ wide_slip 4 0 1 0
    ∷ wide_slip 4 0 1 1
    ∷ wide_slip 2 1 0 0
    ∷ wide_slip 3 0 0 0
    ∷ wide_slip 4 0 0 9
    ∷ slip_of 4 0 9
    ∷ []

unfoldable lines : List (List ℕ)
lines =
    (0 ∷ 0 ∷ 0 ∷ 0 ∷ 0 ∷ [])
    ∷ (1 ∷ 0 ∷ 0 ∷ 0 ∷ 0 ∷ [])
    ∷ (1 ∷ 0 ∷ 0 ∷ 0 ∷ 0 ∷ [])
    ∷ (1 ∷ 0 ∷ 0 ∷ 0 ∷ 0 ∷ [])
    ∷ (1 ∷ 6 ∷ 0 ∷ 0 ∷ 0 ∷ [])
    ∷ (4 ∷ 0 ∷ 2 ∷ 2 ∷ 2 ∷ 1 ∷ 3 ∷ [])
    ∷ (4 ∷ 0 ∷ 2 ∷ 2 ∷ 2 ∷ 1 ∷ 2 ∷ [])
    ∷ (4 ∷ 0 ∷ 1 ∷ 1 ∷ 2 ∷ 1 ∷ [])
    ∷ (2 ∷ 0 ∷ 0 ∷ 0 ∷ 0 ∷ [])
    ∷ (3 ∷ 0 ∷ 0 ∷ 0 ∷ 0 ∷ [])
    ∷ (4 ∷ 0 ∷ 1 ∷ 2 ∷ 1 ∷ 3 ∷ [])
    ∷ (4 ∷ 1 ∷ 0 ∷ 0 ∷ 0 ∷ [])
    ∷ []

-- the slices lent to work in, and the eight words of four signatures
unfoldable lent : Work
lent = record { scratch = replicate 4 0; marks = replicate 4 0; output = replicate 4 0 }

unfoldable blank : List ℕ
blank = replicate 8 0

record WideRun : Type 0 where
  by_ledger : lines_by 8 lent (empty_ledger 4 0) nothing run ≡ lines
  on_tables : lines_on lent run blank (replicate 22 0) ≡ lines
  on_packed : lines_packed lent run blank (replicate 13 0) (replicate 3 0) ≡ lines

wide_run : WideRun
unfolding number_in signatures_in words_at ask_kind slip_of wide_slip run lines lent blank opened closed unpacked lines_packed up_from keep has once coversb difference_from split insert join remove signatures path no_zero_edge compared nodes_read smaller best_of build_within tree_from free_from free_nodes clear_links spot_from file_stores file_links block_before parent_from withdraw_stores withdraw_links heads_from group_nodes group_links ask clear_refusal file_refusal withdraw_refusal rebuild_refusal search_refusal number_at ask_slip read_kind read_slip matching_from entry_in entries_from lines_by lines_on
wide_run = record { by_ledger = refl; on_tables = refl; on_packed = refl }
