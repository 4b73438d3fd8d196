-- The questions of a filing: the number of each first no, and what it says that there is none.
-- Assumes nothing.
use Prim.Native.Nat.{ℕ, ◌*◌, ◌^◌, ◌≤◌}
use native.Mathlib.Omega.{arith}
use mathlib.Core.Path.{◌≡◌, refl, sym, ◌∙◌, ap}
use mathlib.Core.Logic.{◌≢◌}
use mathlib.Core.Bool.{Bool, true, false, not, ◌&&◌}
use mathlib.Core.List.{List}
use lib.Dec.{eqb, leb, ltb}
use lib.ListN.{length}
use borrow.Author.Tests.{eq-eqb, ne_eqb, eqb-true, ltb-true}
use Rattle.model.specs.Wide.{word_count, number_in}
use Rattle.model.specs.Tables.{blocks_of, width_of, filed_of}
use Rattle.model.specs.Questions.{asks_tables, ask, tables_fit, words_fit, is_signature, is_block, file_refusal}
use Rattle.model.proofs.Asking.{both, in_range, ask_zero}
use Rattle.tables.specs.declared.packed.Tables.{Tables}
use Rattle.tables.specs.Held.{blocks_held, held}
use Rattle.model.proofs.Packing.{blocks_told}
use Rattle.tables.proofs.Rowed.{block_inside}
use Rattle.tables.proofs.Held.{front, filed, fit}
use Rattle.file.specs.Asking.{Passed}

not_not : (t : Bool) → not (not t) ≡ true → t ≡ true
not_not true e = refl
not_not false e = e

module _ (words links : List ℕ) (b : ℕ) (s : List ℕ) where
  pub passed : file_refusal (asks_tables words links) b s ≡ 0 → Passed (blocks_of links) links b s
  unfolding file_refusal
  passed z =
      let p4 = ask_zero 3 (words_fit (asks_tables words links) s) _ z in
      let p5 = ask_zero 4 (is_block (asks_tables words links) b) _ p4.1 in
      let p6 = ask_zero 5 (is_signature (asks_tables words links) s) _ p5.1 in
      let p7 = ask_zero 6 (not (not (eqb (filed_of links b) 0))) 0 p6.1 in
      let r = in_range b (blocks_of links) p5.0 in
      record {
        long = eqb-true _ _ (both {t = tables_fit (asks_tables words links)} p4.0).1;
        from = r.0;
        to = r.1;
        small = ltb-true _ _ p6.0;
        unfiled = eqb-true _ _ (not_not _ p7.0);
      }

  pub refuses_unfit : tables_fit (asks_tables words links) ≡ false → file_refusal (asks_tables words links) b s ≡ 4
  unfolding file_refusal ask
  refuses_unfit e = rw (e, file_refusal)

-- those of tables that are read: W, B, F and the filed word as they are read
module _ (t : Tables) (b : ℕ) (s : List ℕ) where
  abbrev refusal : ℕ
  refusal = file_refusal (asks_tables t.rows.signatures.now (held t)) b s

  each : t.rows.words ≡ word_count (width_of (held t))
  each = t.rows.fit.each ∙ ap word_count (front t 0 (omega arith))

  -- the block's words stand inside the slice
  pub inside : Passed (blocks_held t) (held t) b s → b * length s ≤ length t.rows.signatures.now
  inside P = rw (← P.long ∙ sym each) at (block_inside t.rows b P.to)

  pub refuses_4 : length s ≢ t.rows.words → 4 ≡ refusal
  unfolding file_refusal ask
  refuses_4 n = rw (fit t, ne_eqb (length s) (word_count (width_of (held t))) (λ z. n (z ∙ sym each)), file_refusal)

  module _ (is_W : length s ≡ t.rows.words) (B : ℕ) (is_B : B ≡ blocks_held t) where
    long : length s ≡ word_count (width_of (held t))
    long = is_W ∙ each

    fit_words : words_fit (asks_tables t.rows.signatures.now (held t)) s ≡ true
    fit_words = rw (fit t, eq-eqb (length s) (word_count (width_of (held t))) long)

    blocks : B ≡ blocks_of (held t)
    blocks = is_B ∙ sym (blocks_told (held t) (blocks_held t) t.fits.fits.links_long)

    pub refuses_5 : (leb 1 b && leb b B) ≡ false → 5 ≡ refusal
    unfolding file_refusal ask
    refuses_5 e = rw (fit_words, rw blocks at e, file_refusal)

    module _ (block : (leb 1 b && leb b B) ≡ true) (F : ℕ) (is_F : F ≡ width_of t.rows.links.now) where
      width : F ≡ width_of (held t)
      width = is_F ∙ front t 0 (omega arith)

      pub refuses_6 : ltb (number_in s) (2 ^ F) ≡ false → 6 ≡ refusal
      unfolding file_refusal ask
      refuses_6 e = rw (fit_words, rw blocks at block, rw width at e, file_refusal)

      module _ (small : ltb (number_in s) (2 ^ F) ≡ true) (f : ℕ) (is_f : f ≡ filed_of t.rows.links.now b) where
        word : f ≡ filed_of (held t) b
        word = is_f ∙ filed t b (omega (arith, is_B, in_range b B block))

        pub refuses_7 : f ≢ 0 → 7 ≡ refusal
        unfolding file_refusal ask
        refuses_7 n = rw (fit_words, rw blocks at block, rw width at small, ne_eqb (filed_of (held t) b) 0 (λ z. n (word ∙ z)), file_refusal)

        pub refuses_none : f ≡ 0 → 0 ≡ refusal
        unfolding file_refusal ask
        refuses_none e = rw (fit_words, rw blocks at block, rw width at small, eq-eqb (filed_of (held t) b) 0 (sym word ∙ e), file_refusal)

        pub passes : f ≡ 0 → Passed (blocks_held t) (held t) b s
        passes e =
            let r = in_range b B block in
            record { long = long; from = r.0; to = omega (arith, is_B, r.1); small = rw width at (ltb-true (number_in s) (2 ^ F) small); unfiled = sym word ∙ e }
