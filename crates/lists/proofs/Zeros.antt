-- Tables never cleared, all links 0: no width fits, so every call but a clear that fits is refused. Whatever words are lent for
-- signatures, with width 0 nothing reads them.
-- Assumes nothing.
use Prim.Native.Nat.{ℕ, zero, suc, ◌-◌, ◌≤◌, ◌<◌}
use native.Mathlib.Omega.{arith}
use mathlib.Core.Path.{◌≡◌, refl, sym, ◌∙◌, ap, ap₂}
use mathlib.Core.Bool.{true, false}
use mathlib.Core.List.{List, []}
use lib.ListN.{length, replicate, length-replicate, get_or-replicate}
use Rattle.model.specs.Limits.{most_blocks}
use Rattle.model.specs.Basics.{has, once}
use Rattle.model.specs.Wide.{word_count}
use Rattle.model.specs.Tree.{nothing, signatures}
use Rattle.model.specs.Tables.{word, links_of, blocks_of, signatures_of, width_of, root_of, filed_at, tree_of}
use Rattle.model.specs.Questions.{Asked, asks_tables, width_fits, ask, file_refusal, withdraw_refusal, rebuild_refusal, search_refusal, audit_refusal, Work, Call, clear, file, withdraw, rebuild, search, audit, refusal}
use Rattle.model.specs.Ledger.{Entry, unfiled, pair_signatures, is_stored, empty_ledger, entries_from, ledger_of}
use Rattle.model.specs.Claim.{Paths, Kept}
use Rattle.model.proofs.Wide.{signatures_length}
use Rattle.model.proofs.Packing.{blocks_told}
use Rattle.tables.proofs.Fits.{lengths_fit}
use Rattle.tables.proofs.Trees.{tree_from_none}
use Rattle.tables.proofs.Entries.{entry_unfiled, entries_ext}
use Rattle.lists.proofs.Readings.{is_clear}

-- no pair, no path
no_pairs : (n : ℕ) → pair_signatures (replicate n unfiled) ≡ []
no_pairs zero = refl
no_pairs (suc n) = no_pairs n

pub empty_paths : (B F : ℕ) → Paths (empty_ledger B F) nothing
unfolding has once signatures
empty_paths B F =
    let none : (s : ℕ) → is_stored s (empty_ledger B F) ≡ false = λ s. ap (has s) (no_pairs B) in
    let not_stored : (s : ℕ) → is_stored s (empty_ledger B F) ≡ true → ⊥ = λ s e. let f = none s in let z : ◌≡◌ {A = ℕ} 0 1 = cc in omega arith in
    record {
      leaves = λ s. sym (none s);
      single = sym (ap (λ (l : List ℕ). length (once l)) (no_pairs B));
      agrees = λ s e. absurd (not_stored s e);
      others = λ s u e f n a. not_stored s e;
    }

-- where words do not fit, every call but clear gets 4
blank_clears : (A : Asked) → A.lengths ≡ true → A.words ≡ false → (W : Work) (c : Call) → refusal A W c ≡ 0 → is_clear c ≡ 1
unfolding file_refusal withdraw_refusal rebuild_refusal search_refusal audit_refusal ask
blank_clears A l w W (clear F) e = refl
blank_clears A l w W (file b s) e = absurd (omega (arith, rw (l, w) at e))
blank_clears A l w W (withdraw b) e = absurd (omega (arith, rw (l, w) at e))
blank_clears A l w W rebuild e = absurd (omega (arith, rw (l, w) at e))
blank_clears A l w W (search q) e = absurd (omega (arith, rw (l, w) at e))
blank_clears A l w W audit e = absurd (omega (arith, rw (l, w) at e))

module _ (words : List ℕ) (B : ℕ) (b1 : 1 ≤ B) (b2 : B ≤ most_blocks) where
  abbrev links : List ℕ
  links = replicate (links_of B) 0

  abbrev sigs : List ℕ
  sigs = signatures_of words links

  pub zero_long : length {A = ℕ} (replicate (links_of B) 0) ≡ links_of B
  zero_long = length-replicate {A = ℕ} (links_of B) 0

  pub zero_blocks : blocks_of (replicate (links_of B) 0) ≡ B
  zero_blocks = blocks_told links B zero_long

  count : length sigs ≡ B
  count = signatures_length (word_count (width_of links)) (blocks_of links) words ∙ zero_blocks

  zero_word : (a : ℕ) → a < links_of B → word links a ≡ 0
  zero_word a h = get_or-replicate (links_of B) a 0 0 h

  zero_ledger : ledger_of sigs links ≡ empty_ledger B 0
  zero_ledger =
      ap₂ (λ (F : ℕ) (es : List Entry). record { width = F; entries = es }) (zero_word 0 (omega arith))
      (ap (λ (n : ℕ). entries_from sigs links n 1) count
      ∙ sym (entries_ext sigs links (replicate B unfiled) B (length-replicate B unfiled)
      (λ b h k. get_or-replicate B (b - 1) unfiled unfiled (omega arith) ∙ sym (entry_unfiled sigs links b (zero_word (filed_at b) (omega arith))))))

  zero_tree : tree_of sigs links ≡ nothing
  zero_tree = tree_from_none (length sigs) sigs links (width_of links) (root_of links) (zero_word 2 (omega arith))

  pub zero_kept : Kept (empty_ledger B 0) nothing words (replicate (links_of B) 0)
  zero_kept = record { sound = λ h. absurd (omega arith); ledger = zero_ledger; tree = zero_tree; leads = zero_word 2 (omega arith); paths = empty_paths B 0 }

  -- no width is told
  pub zero_width : width_fits (width_of (replicate (links_of B) 0)) ≡ false
  zero_width = rw (zero_word 0 (omega arith))

  lengths_zero : (asks_tables words links).lengths ≡ true
  lengths_zero = lengths_fit words links (rw zero_blocks b1) (rw zero_blocks b2) (zero_long ∙ ap links_of (sym zero_blocks))

  words_zero : (asks_tables words links).words ≡ false
  words_zero = rw zero_width

  pub zero_clears : (W : Work) (c : Call) → refusal (asks_tables words (replicate (links_of B) 0)) W c ≡ 0 → is_clear c ≡ 1
  zero_clears = blank_clears (asks_tables words links) lengths_zero words_zero
