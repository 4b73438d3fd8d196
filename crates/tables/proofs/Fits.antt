-- Question 4's test is the fact that the tables fit, both ways: each part of the test is a comparison, and its answer is the fact.
-- Assumes nothing.
use Prim.Native.Nat.{ℕ, ◌+◌, ◌-◌, ◌*◌, ◌≤◌}
use native.Mathlib.Omega.{arith}
use mathlib.Core.Path.{◌≡◌, refl, sym, ◌∙◌, ap, ap₂}
use mathlib.Core.Logic.{◌↔◌}
use mathlib.Core.Bool.{Bool, true, false, ◌&&◌}
use mathlib.Core.List.{List}
use lib.Dec.{eqb}
use lib.ListN.{length}
use borrow.Author.Tests.{eq-eqb, le-leb, eqb-true}
use Rattle.model.specs.Limits.{widest, most_blocks}
use Rattle.model.specs.Wide.{word_count, signatures_in}
use Rattle.model.specs.Tables.{links_of, blocks_of, signatures_of, width_of, told_blocks}
use Rattle.model.specs.Questions.{ask, blocks_fit, width_fits, asks_tables, tables_fit}
use Rattle.model.specs.Packed.{rows_of, packed_blocks, unpacked, Packs}
use Rattle.model.specs.PackedPromises.{packed_fit}
use Rattle.model.proofs.Asking.{true_false, both, in_range}
use Rattle.model.proofs.Packing.{row_word, long_packs, blocks_told, fit_range, fit_packs, fit_told, fit_width, fit_lengths}
use Rattle.model.proofs.Wide.{signatures_length}
use Rattle.tables.specs.Fits.{LentFit, FitsPacked, FitsUnpacked}

-- what a yes to the lengths of packed tables says
pub packs_of : (B n m : ℕ) → (blocks_fit B && eqb n (rows_of B) && eqb m (B - 1)) ≡ true → (1 ≤ B) × (B ≤ most_blocks) × (n ≡ rows_of B) × (m + 1 ≡ B)
packs_of B n m e =
    let q = both {t = blocks_fit B && eqb n (rows_of B)} e in
    let p = both {t = blocks_fit B} q.0 in
    let r = in_range B most_blocks p.0 in
    let z = eqb-true m (B - 1) q.1 in
    let y = r.0 in
    (r.0, r.1, eqb-true n (rows_of B) p.1, omega arith)

-- what a yes to the lengths says
pub lengths_of : (B n : ℕ) → (blocks_fit B && eqb n (links_of B)) ≡ true → (1 ≤ B) × (B ≤ most_blocks) × (n ≡ links_of B)
lengths_of B n e =
    let q = both {t = blocks_fit B} e in
    let r = in_range B most_blocks q.0 in
    (r.0, r.1, eqb-true n (links_of B) q.1)

-- and the other way
pub lengths_fit : (words links : List ℕ) → 1 ≤ blocks_of links → blocks_of links ≤ most_blocks → length links ≡ links_of (blocks_of links) → (asks_tables words links).lengths ≡ true
lengths_fit words links h k e = rw (le-leb 1 (blocks_of links) h, le-leb (blocks_of links) most_blocks k, eq-eqb (length links) (links_of (blocks_of links)) e)

pub width_in_range : (F : ℕ) → width_fits F ≡ true → (1 ≤ F) × (F ≤ widest)
width_in_range F e = in_range F widest e

-- B blocks of W words each: what a yes to the parts of the question says of the rows, and of all that the links hold
module _ (B W : ℕ) (words links : List ℕ) (from : 1 ≤ B) (to : B ≤ most_blocks) (each : W ≡ word_count (width_of links)) (F : width_fits (width_of links) ≡ true)
    (long : length words ≡ B * word_count (width_of links)) where
  count : length (signatures_in W B words) ≡ B
  count = signatures_length W B words

  pub lent_said : rows_of B ≤ length links → LentFit B W words links
  lent_said l =
      let w = width_in_range (width_of links) F in
      let c = count in
      record {
        rows = record { blocks_from = omega arith; blocks_to = omega arith; rows_long = omega arith; width_from = w.0; width_to = w.1 };
        each = each;
        long = long ∙ ap (λ (n : ℕ). B * n) (sym each);
      }

  pub fits_said : length links ≡ links_of B → told_blocks links ≡ B → FitsUnpacked (signatures_in W B words) words links
  fits_said l t =
      let w = width_in_range (width_of links) F in
      let c = count in
      record {
        fits = record {
          blocks_from = omega arith;
          blocks_to = omega arith;
          sigs_long = refl;
          links_long = omega arith;
          width_from = w.0;
          width_to = w.1;
          width_word = refl;
          told_word = omega arith;
        };
        spelt = ap₂ (λ (v n : ℕ). signatures_in v n words) each (sym (blocks_told links B l));
        long = long ∙ ap (λ (n : ℕ). n * word_count (width_of links)) (sym c);
      }

module _ (words links : List ℕ) where
  abbrev B : ℕ
  B = blocks_of links

  fits_true : tables_fit (asks_tables words links) ≡ true → FitsUnpacked (signatures_of words links) words links
  fits_true e =
      let p = both {t = (asks_tables words links).lengths && (asks_tables words links).words} e in
      let q = both {t = (asks_tables words links).lengths} p.0 in
      let l = lengths_of B (length links) q.0 in
      let r = both {t = width_fits (width_of links)} q.1 in
      fits_said B (word_count (width_of links)) words links l.0 l.1 refl r.0 (eqb-true (length words) (B * word_count (width_of links)) p.1) l.2 (eqb-true (told_blocks links) B r.1)

  pub true_fits : (sigs : List ℕ) → FitsUnpacked sigs words links → tables_fit (asks_tables words links) ≡ true
  true_fits sigs A =
      let t = blocks_told links (length sigs) A.fits.links_long in
      rw (
        t,
        le-leb 1 (length sigs) A.fits.blocks_from,
        le-leb (length sigs) most_blocks A.fits.blocks_to,
        eq-eqb (length links) (links_of (length sigs)) A.fits.links_long,
        le-leb 1 (width_of links) A.fits.width_from,
        le-leb (width_of links) widest A.fits.width_to,
        eq-eqb (told_blocks links) (length sigs) A.fits.told_word,
        eq-eqb (length words) (length sigs * word_count (width_of links)) A.long,
      )

  pub fits_of : (tables_fit (asks_tables words links) ≡ true) ↔ FitsUnpacked (signatures_of words links) words links
  fits_of = (fits_true, true_fits (signatures_of words links))

  -- the question's answer, by a yes to all parts or a no to one
  module _ (e : (asks_tables words links).lengths ≡ true) (M : ℕ) (m : M ≡ B) where
    abbrev OldWords : Bool
    OldWords = width_fits (width_of links) && eqb (told_blocks links) M

    abbrev OldLong : Bool
    OldLong = eqb (length words) (M * word_count (width_of links))

    pub asked_yes : OldWords ≡ true → OldLong ≡ true → 0 ≡ ask 4 (tables_fit (asks_tables words links)) 0
    unfolding ask
    asked_yes h l = rw (e, sym m, h, l)

    pub asked_words : OldWords ≡ false → 4 ≡ ask 4 (tables_fit (asks_tables words links)) 0
    unfolding ask
    asked_words h = rw (e, sym m, h)

    pub asked_long : OldWords ≡ true → OldLong ≡ false → 4 ≡ ask 4 (tables_fit (asks_tables words links)) 0
    unfolding ask
    asked_long h l = rw (e, sym m, h, l)

    module _ (W : ℕ) (each : W ≡ word_count (width_of links)) (h : OldWords ≡ true) (l : OldLong ≡ true) where
      old_lengths : (1 ≤ B) × (B ≤ most_blocks) × (length links ≡ links_of B)
      old_lengths = lengths_of B (length links) e

      old_from : 1 ≤ M
      old_from = omega (arith, m, old_lengths.0)

      old_to : M ≤ most_blocks
      old_to = omega (arith, m, old_lengths.1)

      old_width : width_fits (width_of links) ≡ true
      old_width = let r = both {t = width_fits (width_of links)} h in r.0

      old_long : length words ≡ M * word_count (width_of links)
      old_long = eqb-true (length words) (M * word_count (width_of links)) l

      pub rows_said : LentFit M W words links
      rows_said = let b = old_lengths.2 in let f = old_from in lent_said M W words links old_from old_to each old_width old_long (omega (arith, m))

      pub tables_said : FitsUnpacked (signatures_in W M words) words links
      tables_said =
          let r = both {t = width_fits (width_of links)} h in
          fits_said M W words links old_from old_to each old_width old_long (old_lengths.2 ∙ ap links_of (sym m)) (eqb-true (told_blocks links) M r.1)

  pub asked_lengths : (asks_tables words links).lengths ≡ false → 4 ≡ ask 4 (tables_fit (asks_tables words links)) 0
  unfolding ask
  asked_lengths e = rw e

-- Question 4 of packed tables comes first: a no to the lengths p or to the tables t gives 4, a yes to both leaves the later questions.
pub packed_no : (p t : Bool) (later : ℕ) → (p && t) ≡ false → (t ≡ false → later ≡ 4) → ask 4 p later ≡ 4
unfolding ask
packed_no true t later e h = h e
packed_no false t later e h = refl

pub packed_yes : (p t : Bool) (later : ℕ) → (p && t) ≡ true → ask 4 p later ≡ later
unfolding ask
packed_yes true t later e = refl
packed_yes false t later e = true_false e refl

-- the same of packed tables
module _ (words links nodes : List ℕ) where
  abbrev U : List ℕ
  U = unpacked links nodes

  abbrev N : ℕ
  N = packed_blocks links

  -- the question's answer
  abbrev Asked : ℕ → Type 0
  Asked n = n ≡ ask 4 (packed_fit links nodes && tables_fit (asks_tables words U)) 0

  pub packed_asked_lengths : packed_fit links nodes ≡ false → Asked 4
  unfolding ask
  packed_asked_lengths e = rw e

  module _ (e : packed_fit links nodes ≡ true) where
    packs : Packs N links nodes
    packs = fit_packs links nodes e

    packed_word_1 : told_blocks U ≡ told_blocks links
    packed_word_1 = let b = (fit_range links nodes e).0 in row_word links nodes 1 (omega (arith, packs.rows_long))

    module _ (M : ℕ) (m : M ≡ N) where
      abbrev Words : Bool
      Words = width_fits (width_of links) && eqb (told_blocks links) M

      abbrev Long : Bool
      Long = eqb (length words) (M * word_count (width_of links))

      fit_parts : tables_fit (asks_tables words U) ≡ (Words && Long)
      fit_parts = rw (fit_lengths links nodes e words, fit_width links nodes e, packed_word_1, fit_told links nodes e, m)

      -- by a yes to all parts or a no to one
      pub packed_asked_yes : Words ≡ true → Long ≡ true → Asked 0
      unfolding ask
      packed_asked_yes h l = rw (e, fit_parts, h, l)

      pub packed_asked_words : Words ≡ false → Asked 4
      unfolding ask
      packed_asked_words h = rw (e, fit_parts, h)

      pub packed_asked_long : Words ≡ true → Long ≡ false → Asked 4
      unfolding ask
      packed_asked_long h l = rw (e, fit_parts, h, l)

      -- and what a yes says
      module _ (W : ℕ) (each : W ≡ word_count (width_of links)) (h : Words ≡ true) (l : Long ≡ true) where
        from : 1 ≤ M
        from = omega (arith, m, (fit_range links nodes e).0)

        to : M ≤ most_blocks
        to = omega (arith, m, (fit_range links nodes e).1)

        fits_width : width_fits (width_of links) ≡ true
        fits_width = let r = both {t = width_fits (width_of links)} h in r.0

        long : length words ≡ M * word_count (width_of links)
        long = eqb-true (length words) (M * word_count (width_of links)) l

        pub packed_rows : LentFit M W words links
        packed_rows = let b = packs.rows_long in lent_said M W words links from to each fits_width long (omega (arith, m))

        pub packed_said : FitsPacked (signatures_in W M words) words links nodes
        packed_said =
            let r = both {t = width_fits (width_of links)} h in
            let w = fit_width links nodes e in
            let A =
            fits_said M W words U from to (each ∙ ap word_count (sym w)) (ap width_fits w ∙ fits_width) (long ∙ ap (λ (F : ℕ). M * word_count F) (sym w)) (long_packs N links nodes packs ∙ ap links_of (sym m))
            (packed_word_1 ∙ eqb-true (told_blocks links) M r.1) in
            record {
              packs = record { rows_long = packs.rows_long ∙ ap rows_of (sym m ∙ sym (signatures_length W M words)); nodes_long = packs.nodes_long ∙ (sym m ∙ sym (signatures_length W M words)) };
              fits = A.fits;
              spelt = A.spelt;
              long = A.long;
            }
