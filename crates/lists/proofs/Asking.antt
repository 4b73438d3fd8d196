-- The questions asked of tables and of their ledger get the same answers, and a slip reads the same by either: the ledger has the tables'
-- width, their number of blocks, and a pair exactly where a filed word is other than 0, and as many words are lent to both.
-- Assumes nothing.
use Prim.Native.Nat.{ℕ, zero, suc, ◌≤◌}
use native.Mathlib.Omega.{arith}
use mathlib.Core.Path.{◌≡◌, refl, sym, ◌∙◌, ap}
use mathlib.Core.Logic.{◌≢◌}
use mathlib.Core.Bool.{Bool, true, false, not, ◌&&◌}
use mathlib.Core.List.{List}
use lib.Dec.{eqb}
use lib.ListN.{length}
use borrow.Author.Tests.{eqb-false, not-true, eq-eqb}
use Rattle.model.specs.Limits.{widest, most_blocks}
use Rattle.model.specs.Wide.{word_count}
use Rattle.model.specs.Tables.{links_of, blocks_of, signatures_of, width_of, told_blocks, filed_of}
use Rattle.model.specs.Questions.{Asked, asks_tables, width_fits, blocks_fit, ask, is_block, clear_refusal, file_refusal, withdraw_refusal, rebuild_refusal, search_refusal, audit_refusal, Call, clear, file, withdraw, rebuild, search, audit, Work, refusal, ask_slip, ask_kind, read_kind, read_slip, kind_in}
use Rattle.model.specs.Ledger.{entry_of, has_pair, ledger_of, asks_ledger}
use Rattle.model.specs.Lists.{Request, direct, slip, reading}
use Rattle.model.proofs.Asking.{both, in_range, ask_zero}
use Rattle.model.proofs.Wide.{signatures_length}
use Rattle.tables.proofs.Fits.{lengths_of}
use Rattle.tables.proofs.Entries.{entries_length, entries_of, entry_filed}

ask_same : (n : ℕ) (t : Bool) (k l : ℕ) → (t ≡ true → k ≡ l) → ask n t k ≡ ask n t l
unfolding ask
ask_same n true k l f = f refl
ask_same n false k l f = refl

-- two that say the same are answered the same, and slips read the same by them
module _ (A A' : Asked) (l : A.lengths ≡ A'.lengths) (e : A.lent ≡ A'.lent) (w : A.words ≡ A'.words) (f : A.width ≡ A'.width) (n : A.blocks ≡ A'.blocks) where
  kind_same : (bytes : List ℕ) (k : ℕ) → read_kind A bytes k ≡ read_kind A' bytes k
  unfolding read_kind ask_kind
  kind_same bytes zero = refl
  kind_same bytes (suc zero) = rw (l, e, w, f, n)
  kind_same bytes (suc (suc zero)) = rw (l, e, w, f, n)
  kind_same bytes (suc (suc (suc zero))) = rw (l, e, w, f, n)
  kind_same bytes (suc (suc (suc (suc zero)))) = rw (l, e, w, f, n)
  kind_same bytes (suc (suc (suc (suc (suc k))))) = refl

  reading_same : (q : Request) → reading A q ≡ reading A' q
  unfolding reading read_slip
  reading_same (direct c) = refl
  reading_same (slip bytes) = ap (ask_slip 1 _) (kind_same bytes (kind_in bytes))

  module _ (h : (b : ℕ) → 1 ≤ b → b ≤ A'.blocks → A.filed b ≡ A'.filed b) where
    filed_same : (b : ℕ) (k l : ℕ) → (A.filed b ≡ A'.filed b → k ≡ l) → ask 5 (is_block A' b) k ≡ ask 5 (is_block A' b) l
    filed_same b k l g = ask_same 5 (is_block A' b) k l (λ e. let r = in_range b A'.blocks e in g (h b r.0 r.1))

    refusal_same : (W : Work) (c : Call) → refusal A W c ≡ refusal A' W c
    unfolding clear_refusal file_refusal withdraw_refusal rebuild_refusal search_refusal audit_refusal
    refusal_same W (clear F) = rw (l, e, n)
    refusal_same W (file b s) = rw (l, e, w, f, n) (ask_same 4 _ _ _ (λ _. filed_same b _ _ (λ i. rw i)))
    refusal_same W (withdraw b) = rw (l, e, w, f, n) (ask_same 4 _ _ _ (λ _. filed_same b _ _ (λ i. rw i)))
    refusal_same W rebuild = rw (l, e, w, f, n)
    refusal_same W (search q) = rw (l, e, w, f, n)
    refusal_same W audit = rw (l, e, w, f, n)

-- what a call that no question refuses knows
module _ (words links : List ℕ) where
  pub clear_fits : (F : ℕ) → clear_refusal (asks_tables words links) F ≡ 0 → (1 ≤ blocks_of links) × (blocks_of links ≤ most_blocks) × (1 ≤ F) × (F ≤ widest)
  unfolding clear_refusal
  clear_fits F e =
      let r = ask_zero 3 _ 0 e in
      let p = both {t = (asks_tables words links).lengths && width_fits F} r.0 in
      let q = both {t = (asks_tables words links).lengths} p.0 in
      let l = lengths_of (blocks_of links) (length links) q.0 in
      let w = in_range F widest q.1 in
      (l.0, l.1, w.0, w.1)

  pub withdraw_fits : (b : ℕ) → withdraw_refusal (asks_tables words links) b ≡ 0 → (1 ≤ b) × (b ≤ length (signatures_of words links)) × (filed_of links b ≢ 0)
  unfolding withdraw_refusal
  withdraw_fits b e =
      let r = ask_zero 3 _ _ e in
      let x = ask_zero 4 _ _ r.1 in
      let z = ask_zero 7 _ _ x.1 in
      let g = in_range b (blocks_of links) x.0 in
      (g.0, rw (signatures_length (word_count (width_of links)) (blocks_of links) words) g.1, eqb-false (filed_of links b) 0 (not-true (eqb (filed_of links b) 0) z.0))

-- tables whose links have a fitting length, and tell B where they tell a width that fits; with them another slice may be lent
module _ (words links lent : List ℕ) (long : length links ≡ links_of (blocks_of links)) (told : width_fits (width_of links) ≡ true → told_blocks links ≡ blocks_of links) where
  abbrev sigs : List ℕ
  sigs = signatures_of words links

  count : length sigs ≡ blocks_of links
  count = signatures_length (word_count (width_of links)) (blocks_of links) words

  blocks_same : length (ledger_of sigs links).entries ≡ blocks_of links
  blocks_same = entries_length sigs links (length sigs) 1 ∙ count

  and_true : (t : Bool) → t ≡ (t && true)
  and_true true = refl
  and_true false = refl

  lengths_same : blocks_fit (length (ledger_of sigs links).entries) ≡ (asks_tables lent links).lengths
  lengths_same = rw (eq-eqb (length links) (links_of (blocks_of links)) long, blocks_same) (and_true (blocks_fit (blocks_of links)))

  words_by : (t : Bool) → width_fits (width_of links) ≡ t → t ≡ (t && eqb (told_blocks links) (blocks_of links))
  words_by true h = sym (eq-eqb (told_blocks links) (blocks_of links) (told h))
  words_by false h = refl

  words_same : width_fits (width_of links) ≡ (asks_tables lent links).words
  words_same = words_by (width_fits (width_of links)) refl

  filed_says : (b : ℕ) → 1 ≤ b → b ≤ blocks_of links → has_pair (entry_of (ledger_of sigs links).entries b) ≡ not (eqb (filed_of links b) 0)
  filed_says b h k = ap has_pair (entries_of sigs links (length sigs) b h (omega (arith, count))) ∙ entry_filed sigs links b

  -- the ledger's refusals are the tables'
  pub ledger_refusal : (W : Work) (c : Call) → refusal (asks_ledger (ledger_of sigs links) (length lent)) W c ≡ refusal (asks_tables lent links) W c
  ledger_refusal = refusal_same (asks_ledger (ledger_of sigs links) (length lent)) (asks_tables lent links) lengths_same refl words_same refl blocks_same filed_says

  -- and so are its readings
  pub ledger_reading : (q : Request) → reading (asks_ledger (ledger_of sigs links) (length lent)) q ≡ reading (asks_tables lent links) q
  ledger_reading = reading_same (asks_ledger (ledger_of sigs links) (length lent)) (asks_tables lent links) lengths_same refl words_same refl blocks_same
