-- Ticket 14 by computation, as a mirror's slips print it: two mirrors file the same four signatures in different orders, and a search for
-- 010 compares one of them here and four there; rebuilt, both compare three. A third mirror has more blocks, other blocks for the
-- signatures and one of them twice: another list at the same price.
-- Assumes nothing.
use Prim.Native.Nat.{ℕ}
use mathlib.Core.Path.{◌≡◌, refl}
use mathlib.Core.List.{List, [], ◌∷◌, ◌++◌}
use lib.ListN.{drop, length, replicate}
use Rattle.model.specs.Basics.{up_from, keep, has, once}
use Rattle.model.specs.Signature.{coversb, difference_from}
use Rattle.model.specs.Tree.{nothing, split, insert, signatures, path, no_zero_edge, compared, nodes_read}
use Rattle.model.specs.Build.{smaller, best_of, build_within}
use Rattle.model.specs.Tables.{tree_from}
use Rattle.model.specs.Packed.{opened, closed, unpacked}
use Rattle.model.specs.Clear.{free_from, free_nodes, clear_links}
use Rattle.model.specs.File.{spot_from, file_stores, file_links}
use Rattle.model.specs.Rebuild.{heads_from, group_nodes, group_links}
use Rattle.model.specs.Wide.{number_in, signatures_in}
use Rattle.model.specs.Questions.{ask, clear_refusal, file_refusal, rebuild_refusal, search_refusal, Work, number_at, words_at, ask_slip, ask_kind, read_kind, read_slip}
use Rattle.model.specs.Ledger.{empty_ledger, matching_from, entry_in, entries_from}
use Rattle.model.specs.Lines.{slip_of, lines_by, lines_packed}

unfoldable pub first : List (List ℕ)
first = slip_of 0 3 0 ∷ slip_of 1 1 0b001 ∷ slip_of 1 2 0b010 ∷ slip_of 1 3 0b100 ∷ slip_of 1 4 0b101 ∷ []

unfoldable pub second : List (List ℕ)
second = slip_of 0 3 0 ∷ slip_of 1 3 0b100 ∷ slip_of 1 4 0b101 ∷ slip_of 1 1 0b001 ∷ slip_of 1 2 0b010 ∷ []

unfoldable pub third : List (List ℕ)
third = slip_of 0 3 0 ∷ slip_of 1 5 0b101 ∷ slip_of 1 6 0b100 ∷ slip_of 1 1 0b010 ∷ slip_of 1 2 0b001 ∷ slip_of 1 3 0b010 ∷ []

-- a search for 010, a rebuild, and the search again
unfoldable pub asked : List (List ℕ)
asked = slip_of 4 0 0b010 ∷ slip_of 3 0 0 ∷ slip_of 4 0 0b010 ∷ []

-- the slices lent to work in
unfoldable pub lent : Work
lent = record { scratch = replicate 6 0; marks = replicate 6 0; output = replicate 6 0 }

-- What these three print after a mirror of B blocks, never cleared, has taken its slips: by the ledger and the plain tree, and on packed
-- words.
unfoldable pub by_ledger : ℕ → List (List ℕ) → List (List ℕ)
by_ledger B slips = drop (length slips) (lines_by B lent (empty_ledger B 0) nothing (slips ++ asked))

unfoldable pub on_words : ℕ → ℕ → ℕ → List (List ℕ) → List (List ℕ)
on_words B links nodes slips = drop (length slips) (lines_packed lent (slips ++ asked) (replicate B 0) (replicate links 0) (replicate nodes 0))

-- kind, answer, found, compares, bits read, blocks
unfoldable pub prints : List ℕ → List ℕ → List (List ℕ)
prints before after = before ∷ (3 ∷ 0 ∷ 0 ∷ 0 ∷ 0 ∷ []) ∷ after ∷ []

pub record MirrorsQuote : Type 0 where
  pub first_ledger : by_ledger 4 first ≡ prints (4 ∷ 0 ∷ 1 ∷ 1 ∷ 1 ∷ 2 ∷ []) (4 ∷ 0 ∷ 1 ∷ 3 ∷ 3 ∷ 2 ∷ [])
  pub first_words : on_words 4 13 3 first ≡ prints (4 ∷ 0 ∷ 1 ∷ 1 ∷ 1 ∷ 2 ∷ []) (4 ∷ 0 ∷ 1 ∷ 3 ∷ 3 ∷ 2 ∷ [])
  pub second_ledger : by_ledger 4 second ≡ prints (4 ∷ 0 ∷ 1 ∷ 4 ∷ 3 ∷ 2 ∷ []) (4 ∷ 0 ∷ 1 ∷ 3 ∷ 3 ∷ 2 ∷ [])
  pub second_words : on_words 4 13 3 second ≡ prints (4 ∷ 0 ∷ 1 ∷ 4 ∷ 3 ∷ 2 ∷ []) (4 ∷ 0 ∷ 1 ∷ 3 ∷ 3 ∷ 2 ∷ [])
  pub third_ledger : by_ledger 6 third ≡ prints (4 ∷ 0 ∷ 2 ∷ 4 ∷ 3 ∷ 1 ∷ 3 ∷ []) (4 ∷ 0 ∷ 2 ∷ 3 ∷ 3 ∷ 1 ∷ 3 ∷ [])
  pub third_words : on_words 6 17 5 third ≡ prints (4 ∷ 0 ∷ 2 ∷ 4 ∷ 3 ∷ 1 ∷ 3 ∷ []) (4 ∷ 0 ∷ 2 ∷ 3 ∷ 3 ∷ 1 ∷ 3 ∷ [])

pub mirrors_quote : MirrorsQuote
unfolding number_in signatures_in words_at ask_kind slip_of first second third asked lent by_ledger on_words prints opened closed unpacked lines_packed up_from keep has once coversb difference_from split insert signatures path no_zero_edge compared nodes_read smaller best_of build_within tree_from free_from free_nodes clear_links spot_from file_stores file_links heads_from group_nodes group_links ask clear_refusal file_refusal rebuild_refusal search_refusal number_at ask_slip read_kind read_slip matching_from entry_in entries_from lines_by
mirrors_quote = record { first_ledger = refl; first_words = refl; second_ledger = refl; second_words = refl; third_ledger = refl; third_words = refl }
