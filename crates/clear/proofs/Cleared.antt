-- Cleared tables are sound, their plain tree is nothing and their ledger empty: every word but 0, 1, 3 and the left words of the nodes is 0.
-- Assumes nothing.
use Prim.Native.Nat.{ℕ, zero, suc, ◌+◌, ◌-◌, ◌*◌, ◌^◌, ◌≤◌, ◌<◌}
use native.Mathlib.Omega.{arith}
use mathlib.Core.Path.{◌≡◌, refl, sym, ◌∙◌, ap, ap₂, subst}
use mathlib.Core.Logic.{inr}
use mathlib.Core.List.Memᴰ
use mathlib.Core.List.{List, ◌∷◌, ◌++◌}
use lib.ListN.{length, get_or, replicate, length-append, length-replicate, get_or-replicate, get_or-append}
use lib.Pow.{pow_pos}
use Rattle.model.specs.Limits.{widest, most_blocks}
use Rattle.model.specs.Wide.{word_count, signatures_in}
use Rattle.model.specs.Tree.{nothing}
use Rattle.model.specs.Tables.{word, next_at, filed_at, position_at, blocks_of, signatures_of, signature_of, width_of, root_of, free_of, tree_of}
use Rattle.model.specs.Sound.{none, filed_up_to, FitsAt, SoundAt, Sound, SoundLent}
use Rattle.model.specs.Clear.{free_from, free_nodes, clear_links, clear_signatures, clear_words}
use Rattle.model.specs.Basics.{up_from}
use Rattle.model.proofs.Keep.{up_from_has}
use Rattle.model.proofs.Wide.{signatures_zeros}
use Rattle.model.proofs.Packing.{blocks_told}
use Rattle.tables.proofs.Trees.{tree_from_none}
use Rattle.tables.proofs.Spelled.{Spells, spells_end, free_length, free_chain}
use Rattle.tables.proofs.Entries.{entry_unfiled}
use Rattle.model.specs.Ledger.{Entry, unfiled, empty_ledger, entries_from, ledger_of}

-- unfiled rows have no entry
no_entries : (sigs links : List ℕ) (n b : ℕ) → ((c : ℕ) → b ≤ c → c < b + n → word links (filed_at c) ≡ 0) → entries_from sigs links n b ≡ replicate n unfiled
unfolding entries_from
no_entries sigs links zero b z = refl
no_entries sigs links (suc n) b z =
    ap₂ (λ (e : Entry) (es : List Entry). e ∷ es) (entry_unfiled sigs links b (z b (omega arith) (omega arith))) (no_entries sigs links n (suc b) (λ c h k. z c (omega arith) (omega arith)))

module _ (B F : ℕ) (b1 : 1 ≤ B) (b2 : B ≤ most_blocks) (f1 : 1 ≤ F) (f2 : F ≤ widest) where
  abbrev L : List ℕ
  L = clear_links B F

  body : (a n : ℕ) → a ≡ 5 + n → word L a ≡ get_or (replicate (2 * B) 0 ++ free_nodes (B - 1) 1) n 0
  unfolding clear_links
  body a n e = let e' : a ≡ suc (suc (suc (suc (suc n)))) = omega arith in rw e'

  row : (a : ℕ) → 5 ≤ a → a < 5 + 2 * B → word L a ≡ 0
  row a h h' =
      body a (a - 5) (omega arith)
      ∙ get_or-append (replicate (2 * B) 0) (free_nodes (B - 1) 1) 0 (a - 5) (rw length-replicate (omega arith))
      ∙ get_or-replicate (2 * B) (a - 5) 0 0 (omega arith)

  -- the links end with the words of the free nodes
  spelled : Spells L (position_at B 1) (free_nodes (B - 1) 1)
  unfolding clear_links
  spelled = spells_end (F ∷ B ∷ 0 ∷ free_from B 1 ∷ 0 ∷ replicate (2 * B) 0) (free_nodes (B - 1) 1) (position_at B 1) (omega (arith, length-replicate {A = ℕ} (2 * B) 0))

  unfiled_row : (b : ℕ) → 1 ≤ b → b ≤ B → word L (filed_at b) ≡ 0
  unfiled_row b h h' = row (filed_at b) (omega arith) (omega arith)

  none_filed : (n : ℕ) → n ≤ B → filed_up_to L n ≡ 0
  none_filed zero h = refl
  none_filed (suc n) h = omega (arith, unfiled_row (suc n) (omega arith) h, none_filed n (omega arith))

  zero_signature : (b : ℕ) → 1 ≤ b → b ≤ B → signature_of (clear_signatures B) b ≡ 0
  zero_signature b h h' = get_or-replicate B (b - 1) 0 0 (omega arith)

  fits_clear : FitsAt B F (clear_signatures B) L
  unfolding clear_links
  fits_clear = record {
    blocks_from = b1;
    blocks_to = b2;
    sigs_long = length-replicate B 0;
    links_long = omega (arith, length-append (replicate (2 * B) 0) (free_nodes (B - 1) 1), length-replicate {A = ℕ} (2 * B) 0, free_length (B - 1) 1);
    width_from = f1;
    width_to = f2;
    width_word = refl;
    told_word = refl;
  }

  clear_at : SoundAt B F (clear_signatures B) L
  unfolding clear_links
  clear_at = record {
    fits = fits_clear;
    tree = none;
    holds = refl;
    placed = tt;
    filed_bit = λ b h h'. omega (arith, unfiled_row b h h');
    on_chain = λ b h h' e. absurd (omega (arith, unfiled_row b h h'));
    counted = sym (none_filed B (omega arith));
    blank = λ b h h' e. (row (next_at b) (omega arith) (omega arith), zero_signature b h h');
    narrow = λ b h h'. subst (λ (x : ℕ). x < 2 ^ F) (sym (zero_signature b h h')) (pow_pos F);
    free = up_from (B - 1) 1;
    free_holds = free_chain B L (B - 1) 1 (free_of L) (omega arith) (omega arith) spelled refl;
    free_outside = λ i m n. Memᴰ.not-nil n;
    free_all = λ i h h'. inr (up_from_has (B - 1) 1 i h (omega arith));
  }

  pub clear_sound : Sound (clear_signatures B) L
  clear_sound = rw (fits_clear.sigs_long, fits_clear.width_word) clear_at

  pub clear_tree : tree_of (clear_signatures B) L ≡ nothing
  unfolding clear_links
  clear_tree = tree_from_none (length (clear_signatures B)) (clear_signatures B) L (width_of L) (root_of L) refl

  pub clear_ledger : ledger_of (clear_signatures B) L ≡ empty_ledger B F
  clear_ledger = rw (fits_clear.sigs_long, fits_clear.width_word) (ap (λ (es : List Entry). record { width = F; entries = es }) (no_entries (clear_signatures B) L B 1 (λ c h k. unfiled_row c h (omega arith))))

  -- the same of the tables as they are lent: the words spell the signatures
  told : blocks_of L ≡ B
  told = blocks_told L B fits_clear.links_long

  pub clear_spelt : signatures_of (clear_words B F) L ≡ clear_signatures B
  clear_spelt = ap₂ (λ (w n : ℕ). signatures_in (word_count w) n (clear_words B F)) fits_clear.width_word told ∙ signatures_zeros (word_count F) B

  pub clear_lent : SoundLent (clear_words B F) L
  clear_lent = record {
    long = length-replicate (B * word_count F) 0 ∙ ap₂ (λ (n w : ℕ). n * word_count w) (sym told) (sym fits_clear.width_word);
    sound = rw clear_spelt clear_sound;
  }
