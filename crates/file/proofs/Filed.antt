-- Filing an unfiled block of sound tables: they stay sound, the signature is put into their plain tree, the pair into their ledger, and
-- every other row and signature is as before. Each of the three ways is proved by itself; here they meet.
-- Assumes nothing.
use Prim.Native.Nat.{ℕ, ◌-◌, ◌≤◌}
use native.Mathlib.Decide.{ℕ_discrete}
use native.Mathlib.Omega.{arith}
use mathlib.Core.Path.{◌≡◌, refl, sym, ◌∙◌, subst}
use mathlib.Core.Logic.{◌≢◌}
use mathlib.Core.List.{List}
use lib.ListN.{length, set, length-set}
use Rattle.model.specs.Signature.{first_difference}
use Rattle.model.specs.Tree.{insert}
use Rattle.model.specs.Wide.{word_count, number_in}
use Rattle.model.specs.Tables.{blocks_of, signatures_of, root_at, width_of, root_of, filed_of, signature_of, tree_of}
use Rattle.model.specs.Sound.{Shape, Rooted, none, some, HoldsRoot, Sound, SoundLent}
use Rattle.model.specs.File.{file_words, file_signatures, file_links}
use Rattle.model.specs.Questions.{asks_tables, file_refusal, file}
use Rattle.model.specs.Ledger.{pair, ledger_of, entered}
use Rattle.model.proofs.Wide.{signatures_length}
use Rattle.tables.proofs.Numbers.{set_spelt, set_lent}
use Rattle.tables.proofs.Walks.{spot_leaf}
use Rattle.tables.proofs.After.{signature_other}
use Rattle.tables.proofs.Entries.{entry_pair, ledger_set}
use Rattle.file.proofs.Good.{Fileable, Good, own_signature}
use Rattle.file.proofs.Asked.{passed}
use Rattle.file.proofs.First.{first_good}
use Rattle.file.proofs.Joins.{join_good}
use Rattle.file.proofs.Splits.{split_good}
use Rattle.file.proofs.Cases.{links_first, links_join, links_split, at_leaf, AtLeaf, spare}

-- what no question refuses can be filed
pub fileable : (words links : List ℕ) (S : Sound (signatures_of words links) links) (b : ℕ) (s : List ℕ) → file_refusal (asks_tables words links) b s ≡ 0 → Fileable S b (number_in s)
fileable words links S b s z =
    let p = passed words links b s z in
    let n = signatures_length (word_count (width_of links)) (blocks_of links) words in
    record { from = p.from; to = omega (arith, p.to, n); unfiled = p.unfiled; small = p.small }

module _ {sigs links : List ℕ} (S : Sound sigs links) (b s : ℕ) (Q : Fileable S b s) where
  abbrev B : ℕ
  B = length sigs

  abbrev F : ℕ
  F = width_of links

  with_tree : (t : Shape) → S.tree ≡ some t → Good Q (file_links sigs links b s)
  with_tree t e = go (ℕ_discrete (signature_of sigs A.head) s)
    where
      A : AtLeaf Q t
      A = at_leaf Q t e

      nz : A.head ≢ 0
      nz = omega (arith, A.from)

      go : Dec (signature_of sigs A.head ≡ s) → Good Q (file_links sigs links b s)
      go (yes x) = subst (Good Q) (sym (links_join sigs links b s _ A.head A.spotted A.reference nz x)) (join_good Q t e A.head A.others A.way x)
      go (no n) =
          let P = spare Q t e in
          let d = first_difference F s (signature_of sigs A.head) in
          subst (Good Q) (sym (links_split sigs links b s _ A.head A.spotted A.reference nz n d _ refl refl ∙ rw P.word))
          (split_good Q t e A.head A.others A.way P.first P.rest P.chain n d refl)

  filed : Good Q (file_links sigs links b s)
  filed = go S.tree refl S.holds
    where
      go : (t : Rooted) → S.tree ≡ t → HoldsRoot B links (root_of links) t → Good Q (file_links sigs links b s)
      go none e q = subst (Good Q) (sym (links_first sigs links b s root_at (root_of links) (sym (spot_leaf B F links s F root_at (omega arith))) refl q)) (first_good Q e)
      go (some t) e q = with_tree t e

  pub file_sound : Sound (file_signatures sigs b s) (file_links sigs links b s)
  file_sound = rw (filed.sound.fits.sigs_long, filed.sound.fits.width_word) filed.sound

  pub file_tree : tree_of (file_signatures sigs b s) (file_links sigs links b s) ≡ insert (width_of links) s (tree_of sigs links)
  file_tree = rw (filed.sound.fits.sigs_long, filed.sound.fits.width_word) filed.tree

  -- the block's own row and signature, and every other's
  pub file_own : (filed_of (file_links sigs links b s) b ≡ 1) × (signature_of (file_signatures sigs b s) b ≡ s)
  file_own = (filed.rows.filed_own, own_signature Q)

  pub file_others : (c : ℕ) → c ≢ b → 1 ≤ c → c ≤ length sigs
      → (filed_of (file_links sigs links b s) c ≡ filed_of links c) × (signature_of (file_signatures sigs b s) c ≡ signature_of sigs c)
  file_others c n h h' = (filed.rows.filed_same c n h h', signature_other sigs b s Q.from c h n)

  ledger_filed : ledger_of (file_signatures sigs b s) (file_links sigs links b s) ≡ record { width = width_of links; entries = set (ledger_of sigs links).entries (b - 1) (pair s) }
  ledger_filed = ledger_set sigs links (file_signatures sigs b s) (file_links sigs links b s) b (pair s) Q.from Q.to (length-set sigs (b - 1) s) filed.sound.fits.width_word
      (entry_pair (file_signatures sigs b s) (file_links sigs links b s) b s (λ z. omega (arith, file_own.0)) file_own.1) file_others

  -- the ledger after a call whose words are those of s
  pub file_ledger : (ws : List ℕ) → number_in ws ≡ s → ledger_of (file_signatures sigs b s) (file_links sigs links b s) ≡ entered (ledger_of sigs links) (file b ws)
  file_ledger ws e = rw e ledger_filed

-- the same of the tables as they are lent: the words spell the signatures, and are sound
module _ (words links : List ℕ) (S : SoundLent words links) (b : ℕ) (s : List ℕ) (none : file_refusal (asks_tables words links) b s ≡ 0) where
  abbrev after : List ℕ
  after = file_links (signatures_of words links) links b (number_in s)

  Q : Fileable S.sound b (number_in s)
  Q = fileable words links S.sound b s none

  long : length s ≡ word_count (width_of links)
  long = (passed words links b s none).long

  same : length after ≡ length links
  same = (filed S.sound b (number_in s) Q).sound.fits.links_long ∙ sym S.sound.fits.links_long

  pub file_spelt : signatures_of (file_words words links b s) after ≡ file_signatures (signatures_of words links) b (number_in s)
  file_spelt = set_spelt words links after b s S Q.from Q.to long same (filed S.sound b (number_in s) Q).sound.fits.width_word

  pub file_lent : SoundLent (file_words words links b s) after
  file_lent = set_lent words links after b s S Q.from Q.to long same (filed S.sound b (number_in s) Q).sound.fits.width_word (file_sound S.sound b (number_in s) Q)
