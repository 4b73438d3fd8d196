-- Filing, withdrawing and rebuilding move sound tables as the ledger and the plain tree say: each by the theorems of its own crate. A
-- filing of a stored signature leaves the tree, as `insert` does; a withdrawal takes the leaf away when no other pair is left.
-- Assumes nothing.
use Prim.Native.Nat.{ℕ, ◌-◌, ◌*◌, ◌/◌, ◌≤◌}
use native.Mathlib.Omega.{arith}
use mathlib.Core.Path.{◌≡◌, refl, sym, ◌∙◌, ap, ap₂, subst}
use mathlib.Core.Logic.{◌≢◌}
use mathlib.Core.Bool.{Bool, true, false}
use mathlib.Core.List.{List}
use lib.ListN.{length}
use Rattle.model.specs.Tree.{insert, remove}
use Rattle.model.specs.Wide.{word_count, number_in, signatures_in}
use Rattle.model.specs.Tables.{blocks_of, signatures_of, width_of, filed_of, signature_of, tree_of}
use Rattle.model.specs.Sound.{Sound, SoundLent}
use Rattle.model.specs.File.{file_words, file_links}
use Rattle.model.specs.Withdraw.{withdraw_words, withdraw_signatures, withdraw_links}
use Rattle.model.specs.Rebuild.{rebuild_links}
use Rattle.model.specs.Questions.{asks_tables, file_refusal, withdraw_refusal, file, withdraw, rebuild}
use Rattle.model.specs.Ledger.{pair, entry_of, is_stored, ledger_of, lost, grown}
use Rattle.model.proofs.Trees.{insert_stored}
use Rattle.tables.proofs.Entries.{entry_pair, entries_of}
use Rattle.tables.proofs.Holders.{stored_holder, holder_stored}
use Rattle.tables.proofs.Stored.{sound_proper, stored_leaf}
use Rattle.file.proofs.Filed.{fileable, file_tree, file_ledger, file_spelt, file_lent}
use Rattle.withdraw.proofs.Withdrawing.{Another}
use Rattle.withdraw.proofs.Withdrawn.{withdraw_stays, withdraw_loses, withdraw_lengths, withdraw_own, withdraw_others, withdraw_ledger, withdraw_spelt, withdraw_lent}
use Rattle.rebuild.proofs.Kept.{rebuild_unchanged, rebuild_sound, rebuild_stored, rebuild_ledger}
use Rattle.lists.specs.Moves.{Moves}
use Rattle.lists.proofs.Asking.{withdraw_fits}

-- ---- of the numbers

module _ (sigs links : List ℕ) (S : Sound sigs links) where
  -- filing a stored signature leaves the tree, as `insert` does
  inserted : (b : ℕ) (s : List ℕ) → insert (width_of links) (number_in s) (tree_of sigs links) ≡ grown (ledger_of sigs links) (tree_of sigs links) (file b s)
  inserted b s = go (is_stored (number_in s) (ledger_of sigs links)) refl
    where
      go : (t : Bool) → is_stored (number_in s) (ledger_of sigs links) ≡ t → insert (width_of links) (number_in s) (tree_of sigs links) ≡ grown (ledger_of sigs links) (tree_of sigs links) (file b s)
      go true h = rw (h, grown) (insert_stored (width_of links) (tree_of sigs links) (sound_proper sigs links S) (number_in s) (stored_leaf sigs links S (number_in s) h))
      go false h = rw (h, grown) refl

  module _ (b : ℕ) (b1 : 1 ≤ b) (bB : b ≤ length sigs) (filed : filed_of links b ≡ 1) where
    abbrev s : ℕ
    s = signature_of sigs b

    abbrev sigs' : List ℕ
    sigs' = withdraw_signatures sigs b

    abbrev links' : List ℕ
    links' = withdraw_links sigs links b

    -- a signature still stored has another block
    another : is_stored s (ledger_of sigs' links') ≡ true → (c : ℕ) × Another S b b1 bB filed c
    another h =
        let x = stored_holder sigs' links' s h in
        let n : x.block ≢ b = λ i. x.filed (ap (filed_of links') i ∙ (withdraw_own S b b1 bB filed).0) in
        let k : x.block ≤ length sigs = subst (λ (l : ℕ). x.block ≤ l) (withdraw_lengths S b b1 bB filed).0 x.to in
        let o = withdraw_others S b b1 bB filed x.block n x.from k in
        (x.block, (n, x.from, k, omega (arith, o.0, x.filed, S.filed_bit x.block x.from k), sym o.1 ∙ x.its))

    -- and another block keeps it stored
    still_stored : (c : ℕ) → Another S b b1 bB filed c → is_stored s (ledger_of sigs' links') ≡ true
    still_stored c a =
        let o = withdraw_others S b b1 bB filed c a.0 a.1 a.2 in
        holder_stored sigs' links' s (record {
          block = c;
          from = a.1;
          to = subst (λ (l : ℕ). c ≤ l) (sym (withdraw_lengths S b b1 bB filed).0) a.2;
          filed = omega (arith, o.0, a.3);
          its = o.1 ∙ a.4;
        })

    withdraw_tree : tree_of sigs' links' ≡ lost (ledger_of sigs' links') (pair s) (tree_of sigs links)
    withdraw_tree = go (is_stored s (ledger_of sigs' links')) refl
      where
        go : (t : Bool) → is_stored s (ledger_of sigs' links') ≡ t → tree_of sigs' links' ≡ lost (ledger_of sigs' links') (pair s) (tree_of sigs links)
        go true h = let x = another h in rw (h, lost) (withdraw_stays S b b1 bB filed x.0 x.1)
        go false h =
            let none : (c : ℕ) → Another S b b1 bB filed c → ⊥ = λ c a. let y = still_stored c a in let z : ◌≡◌ {A = ℕ} 0 1 = cc in omega arith in
            rw (h, lost) (withdraw_loses S b b1 bB filed none ∙ ap (λ (w : ℕ). remove w s (tree_of sigs links)) (sym (withdraw_lengths S b b1 bB filed).2))

    its_entry : entry_of (ledger_of sigs links).entries b ≡ pair s
    its_entry = entries_of sigs links (length sigs) b b1 bB ∙ entry_pair sigs links b s (omega arith) refl

    withdrawn : tree_of sigs' links' ≡ grown (ledger_of sigs links) (tree_of sigs links) (withdraw b)
    withdrawn = rw (its_entry, ← withdraw_ledger S b b1 bB filed) withdraw_tree

-- ---- of the tables as they are lent

module _ (words links : List ℕ) (S : SoundLent words links) where
  abbrev spelt : List ℕ
  spelt = signatures_of words links

  pub file_moves : (b : ℕ) (s : List ℕ) → file_refusal (asks_tables words links) b s ≡ 0
      → Moves words links (file b s) (file_words words links b s) (file_links (signatures_of words links) links b (number_in s))
  file_moves b s e =
      let Q = fileable words links S.sound b s e in
      let x = file_spelt words links S b s e in
      let after : List ℕ = file_links spelt links b (number_in s) in
      record {
        sound = file_lent words links S b s e;
        ledger = ap (λ (l : List ℕ). ledger_of l after) x ∙ file_ledger S.sound b (number_in s) Q s refl;
        tree = ap (λ (l : List ℕ). tree_of l after) x ∙ file_tree S.sound b (number_in s) Q ∙ inserted spelt links S.sound b s;
      }

  pub withdraw_moves : (b : ℕ) → withdraw_refusal (asks_tables words links) b ≡ 0
      → Moves words links (withdraw b) (withdraw_words words links b) (withdraw_links (signatures_of words links) links b)
  withdraw_moves b e =
      let f = withdraw_fits words links b e in
      let one : filed_of links b ≡ 1 = omega (arith, f.2, S.sound.filed_bit b f.0 f.1) in
      let x = withdraw_spelt words links S b f.0 f.1 one in
      let after : List ℕ = withdraw_links spelt links b in
      record {
        sound = withdraw_lent words links S b f.0 f.1 one;
        ledger = ap (λ (l : List ℕ). ledger_of l after) x ∙ withdraw_ledger S.sound b f.0 f.1 one;
        tree = ap (λ (l : List ℕ). tree_of l after) x ∙ withdrawn spelt links S.sound b f.0 f.1 one;
      }

  -- a rebuild leaves the words, and the links' length and width
  pub rebuild_blocks : blocks_of (rebuild_links (signatures_of words links) links) ≡ blocks_of links
  rebuild_blocks = ap (λ (k : ℕ). (k - 2) / 5) (rebuild_unchanged spelt links S.sound).long

  pub rebuild_moves : Moves words links rebuild words (rebuild_links (signatures_of words links) links)
  rebuild_moves =
      let wide = (rebuild_unchanged spelt links S.sound).width in
      let after : List ℕ = rebuild_links spelt links in
      let x : signatures_of words after ≡ spelt = ap₂ (λ (w k : ℕ). signatures_in (word_count w) k words) wide rebuild_blocks in
      record {
        sound = record {
          long = S.long ∙ ap₂ (λ (k w : ℕ). k * word_count w) (sym rebuild_blocks) (sym wide);
          sound = rw x (rebuild_sound spelt links S.sound);
        };
        ledger = ap (λ (l : List ℕ). ledger_of l after) x ∙ rebuild_ledger spelt links S.sound;
        tree = ap (λ (l : List ℕ). tree_of l after) x ∙ rebuild_stored spelt links S.sound;
      }
