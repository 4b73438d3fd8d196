-- One step of a list, from tables, ledger and tree that go together (`Begins`). Whether it changes nothing or is carried out, it is
-- right as soon as its report is the ledger's and what it leaves goes together. `words` is the index's slice before it, `words'` after it.
-- Assumes nothing.
use Prim.Native.Nat.{ℕ, ◌≤◌}
use native.Mathlib.Omega.{arith}
use mathlib.Core.Path.{◌≡◌, refl, sym, ◌∙◌, ap, subst}
use mathlib.Core.Logic.{◌≢◌}
use mathlib.Core.Bool.{true}
use mathlib.Core.List.{List}
use lib.ListN.{length}
use borrow.Author.Tests.{eq-eqb, ne_eqb}
use Rattle.model.specs.Limits.{widest, most_blocks}
use Rattle.model.specs.Wide.{word_count, number_in}
use Rattle.model.specs.Tree.{Tree, nothing}
use Rattle.model.specs.Tables.{links_of, blocks_of, signatures_of, width_of, told_blocks, tree_of}
use Rattle.model.specs.Sound.{SoundLent}
use Rattle.model.specs.Clear.{clear_words, clear_links}
use Rattle.model.specs.Questions.{asks_tables, width_fits, Work, Call, clear, file, withdraw, rebuild, search, audit, refusal, Reading, carries}
use Rattle.model.specs.Ledger.{Ledger, empty_ledger, ledger_of, asks_ledger, entered, grown, ledger_after, tree_after, Report, bare, done_by, report_by}
use Rattle.model.specs.Lists.{Memory, Request, reading, Gives}
use Rattle.model.specs.Claim.{Kept, Searched, Begins, sound, zeros}
use Rattle.model.proofs.Asking.{true_false}
use Rattle.model.proofs.Wide.{signatures_length}
use Rattle.tables.proofs.Entries.{entries_length}
use Rattle.tables.proofs.Stored.{leads_of, paths_of}
use Rattle.clear.proofs.Cleared.{clear_tree, clear_ledger, clear_spelt, clear_lent}
use Rattle.lists.specs.Moves.{refusal_in}
use Rattle.lists.specs.Stepped.{Stepped, Refused}
use Rattle.lists.proofs.Asking.{clear_fits, ledger_refusal, ledger_reading}
use Rattle.lists.proofs.Readings.{call_of, is_search}
use Rattle.lists.proofs.Zeros.{zero_kept, zero_long, zero_blocks, zero_width}

-- sound tables with their ledger and their tree, by equal ones
pub begins_sound : (words links : List ℕ) (L : Ledger) (t : Tree) → SoundLent words links
    → ledger_of (signatures_of words links) links ≡ L → tree_of (signatures_of words links) links ≡ t → Begins words links L t
begins_sound words links L t S e f =
    subst (λ (x : Ledger). Begins words links x t) e (subst (Begins words links (ledger_of (signatures_of words links) links)) f (sound S))

-- cleared tables go together with the empty ledger
pub begins_cleared : (B F : ℕ) → 1 ≤ B → B ≤ most_blocks → 1 ≤ F → F ≤ widest → Begins (clear_words B F) (clear_links B F) (empty_ledger B F) nothing
begins_cleared B F b1 b2 f1 f2 =
    begins_sound (clear_words B F) (clear_links B F) (empty_ledger B F) nothing (clear_lent B F b1 b2 f1 f2)
    (ap (λ (l : List ℕ). ledger_of l (clear_links B F)) (clear_spelt B F b1 b2 f1 f2) ∙ clear_ledger B F b1 b2 f1 f2)
    (ap (λ (l : List ℕ). tree_of l (clear_links B F)) (clear_spelt B F b1 b2 f1 f2) ∙ clear_tree B F b1 b2 f1 f2)

-- tables, ledger and tree that go together are what the claim says of a moment
pub kept_of : (words links : List ℕ) (L : Ledger) (t : Tree) → Begins words links L t → Kept L t words links
kept_of words links L t (sound S) = record {
  sound = λ _. S;
  ledger = refl;
  tree = refl;
  leads = leads_of (signatures_of words links) links S.sound;
  paths = paths_of (signatures_of words links) links S.sound;
}
kept_of words links L t (zeros B h k f) = subst (Kept (empty_ledger B 0) nothing words) (sym f) (zero_kept words B h k)

-- their links fit, but for a width where none was set
links_fit : (words links : List ℕ) (L : Ledger) (t : Tree) → Begins words links L t
    → (length links ≡ links_of (blocks_of links)) × (width_fits (width_of links) ≡ true → told_blocks links ≡ blocks_of links)
links_fit words links L t (sound S) =
    let n = signatures_length (word_count (width_of links)) (blocks_of links) words in
    (S.sound.fits.links_long ∙ ap links_of n, λ _. S.sound.fits.told_word ∙ n)
links_fit words links L t (zeros B h k f) =
    subst (λ (x : List ℕ). (length x ≡ links_of (blocks_of x)) × (width_fits (width_of x) ≡ true → told_blocks x ≡ blocks_of x)) (sym f)
    (zero_long words B h k ∙ ap links_of (sym (zero_blocks words B h k)), λ e. true_false e (zero_width words B h k))

module _ (words links : List ℕ) (L : Ledger) (t : Tree) (b : Begins words links L t) where
  -- the ledger refuses what the tables refuse, and reads slips as they do, whatever slice is lent with them
  pub begins_refusal : (lent : List ℕ) (W : Work) (c : Call) → refusal (asks_ledger L (length lent)) W c ≡ refusal (asks_tables lent links) W c
  begins_refusal lent W c =
      let f = links_fit words links L t b in
      subst (λ (x : Ledger). refusal (asks_ledger x (length lent)) W c ≡ refusal (asks_tables lent links) W c) (kept_of words links L t b).ledger (ledger_refusal words links lent f.0 f.1 W c)

  pub begins_reading : (lent : List ℕ) (q : Request) → reading (asks_ledger L (length lent)) q ≡ reading (asks_tables lent links) q
  begins_reading lent q =
      let f = links_fit words links L t b in
      subst (λ (x : Ledger). reading (asks_ledger x (length lent)) q ≡ reading (asks_tables lent links) q) (kept_of words links L t b).ledger (ledger_reading words links lent f.0 f.1 q)

  pub begins_blocks : length L.entries ≡ blocks_of links
  begins_blocks =
      let sigs : List ℕ = signatures_of words links in
      subst (λ (x : Ledger). length x.entries ≡ blocks_of links) (kept_of words links L t b).ledger
      (entries_length sigs links (length sigs) 1 ∙ signatures_length (word_count (width_of links)) (blocks_of links) words)

-- a call that is carried out answers 0
done_zero : (L : Ledger) (t : Tree) (c : Call) → (done_by L t c).answer ≡ 0
done_zero L t (clear F) = refl
done_zero L t (file b s) = refl
done_zero L t (withdraw b) = refl
done_zero L t rebuild = refl
done_zero L t (search q) = refl
done_zero L t audit = refl

module _ (L : Ledger) (t : Tree) (M : Memory) (o : Report) (M' : Memory) (words' : List ℕ) where
  abbrev n : ℕ
  n = length M.signatures

  -- a step that changes nothing
  pub stays : (words : List ℕ) (r : Reading) → Begins words M.links L t → words' ≡ words → o ≡ report_by L t (length M.signatures) M.work r → M' ≡ M
      → ((q : List ℕ) → r ≡ carries (search q) → o.answer ≡ 0 → ⊥)
      → ledger_after L (length M.signatures) M.work r ≡ L → tree_after L t (length M.signatures) M.work r ≡ t → Stepped L t r M o M' words'
  stays words r b w e m none l f =
      let b' = subst (λ (x : Ledger). Begins words' M'.links x (tree_after L t n M.work r)) (sym l)
      (subst (Begins words' M'.links L) (sym f) (subst (λ (x : Memory). Begins words' x.links L t) (sym m) (subst (λ (x : List ℕ). Begins x M.links L t) (sym w) b))) in
      (record { report = e; untouched = λ _. m; searched = λ q i z. absurd (none q i z); kept = kept_of words' M'.links _ _ b' }, b')

  -- a call that is refused
  pub halts : (words : List ℕ) (c : Call) → Begins words M.links L t → words' ≡ words → refusal (asks_ledger L (length M.signatures)) M.work c ≢ 0
      → Refused (refusal (asks_ledger L (length M.signatures)) M.work c) M o M' → Stepped L t (carries c) M o M' words'
  halts words c b w h x =
      let k = ne_eqb (refusal (asks_ledger L n) M.work c) 0 h in
      stays words (carries c) b w (rw (k, report_by) x.0) x.1 (λ q i z. h (sym (ap (λ (y : Report). y.answer) x.0) ∙ z)) (rw (k, ledger_after)) (rw (k, tree_after))

  -- a call that is carried out
  pub works : (c : Call) → refusal (asks_ledger L (length M.signatures)) M.work c ≡ 0 → o ≡ done_by L t c
      → ((q : List ℕ) → c ≡ search q → Searched L t (number_in q) M.work o M'.work)
      → Begins words' M'.links (entered L c) (grown L t c) → Stepped L t (carries c) M o M' words'
  works c z e s b =
      let k = eq-eqb (refusal (asks_ledger L n) M.work c) 0 z in
      let b' : Begins words' M'.links (ledger_after L n M.work (carries c)) (tree_after L t n M.work (carries c)) = rw (k, ledger_after, tree_after) b in
      (record { report = rw (k, report_by) e; untouched = λ h. absurd (h (ap (λ (y : Report). y.answer) e ∙ done_zero L t c)); searched = λ q i _. s q (ap call_of i); kept = kept_of words' M'.links _ _ b' }, b')

  -- A clear that fits, on tables of any content and any slice, by any ledger of as many blocks.
  pub clear_step : (F : ℕ) → length L.entries ≡ blocks_of M.links → Gives (clear F) M o M' → refusal_in M (clear F) ≡ 0
      → refusal (asks_ledger L (length M.signatures)) M.work (clear F) ≡ 0 → words' ≡ M'.signatures → Stepped L t (carries (clear F)) M o M' words'
  clear_step F l g e z w =
      let x = g.0.done e in
      let f = clear_fits M.signatures M.links F e in
      let b = begins_cleared (blocks_of M.links) F f.0 f.1 f.2 f.3 in
      works (clear F) z (g.1.counts ∙ ap bare x.0) (λ q i. absurd (omega (arith, ap is_search i)))
      (rw (w, x.1, x.2, l) b)
