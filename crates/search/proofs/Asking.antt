-- The questions of a search in order: question 4 first, of the tables and then of the query's words, then those of the query's number, the
-- marks and the output; each no is the refusal where the questions before it passed.
-- Assumes nothing.
use Prim.Native.Nat.{ℕ, ◌^◌, ◌≤◌, ◌<◌}
use mathlib.Core.Path.{◌≡◌, refl, sym, ◌∙◌, ap}
use mathlib.Core.Logic.{◌≢◌}
use mathlib.Core.Bool.{Bool, true, false, ◌&&◌}
use mathlib.Core.List.{List}
use lib.Dec.{eqb, leb, ltb}
use lib.ListN.{length}
use borrow.Author.Tests.{lt-leb, le-leb, leb-true, ltb-true, eqb-true}
use Rattle.model.specs.Wide.{word_count, number_in}
use Rattle.model.specs.Tables.{width_of, blocks_of}
use Rattle.model.specs.Questions.{Asked, ask, tables_fit, asks_tables, search_refusal}
use Rattle.model.specs.Packed.{unpacked}
use Rattle.model.specs.PackedPromises.{packed_fit}
use Rattle.model.proofs.Asking.{both, ask_zero}
use Rattle.model.proofs.Packing.{fit_width}
use Rattle.tables.proofs.Fits.{packed_no, packed_yes}

pub ask_yes : (n : ℕ) (t : Bool) (later : ℕ) → t ≡ true → ask n t later ≡ later
unfolding ask
ask_yes n t later e = rw (e, ask)

pub ask_no : (n : ℕ) (t : Bool) (later : ℕ) → t ≡ false → ask n t later ≡ n
unfolding ask
ask_no n t later e = rw (e, ask)

-- the questions after those of the tables: of the query's words and its number, and then of the marks and the output
abbrev pub of_query : List ℕ → List ℕ → ℕ → ℕ
of_query links q rest = ask 4 (eqb (length q) (word_count (width_of links))) (ask 6 (ltb (number_in q) (2 ^ width_of links)) rest)

abbrev pub buffers : ℕ → ℕ → ℕ → ℕ
buffers B marks output = ask 9 (leb B marks) (ask 10 (leb B output) 0)

module _ (B marks output : ℕ) where
  pub says_marks : marks < B → 9 ≡ buffers B marks output
  says_marks h = sym (ask_no 9 _ _ (lt-leb B marks h))

  pub says_output : B ≤ marks → output < B → 10 ≡ buffers B marks output
  says_output g h = sym (ask_yes 9 _ _ (le-leb B marks g) ∙ ask_no 10 _ _ (lt-leb B output h))

  pub says_none : B ≤ marks → B ≤ output → 0 ≡ buffers B marks output
  says_none g h = sym (ask_yes 9 _ _ (le-leb B marks g) ∙ ask_yes 10 _ _ (le-leb B output h))

  -- and what it means that neither refuses
  pub buffers_passed : 0 ≡ buffers B marks output → (B ≤ marks) × (B ≤ output)
  buffers_passed z =
      let b = ask_zero 8 (leb B marks) _ (sym z) in
      (leb-true _ _ b.0, leb-true _ _ (ask_zero 9 (leb B output) 0 b.1).0)

-- a no to one of two questions is the refusal, and a yes to both leaves a third
two_no : (m n : ℕ) (t u : Bool) (rest x : ℕ) → x ≢ 0 → x ≡ ask m t (ask n u 0) → x ≡ ask m t (ask n u rest)
unfolding ask
two_no m n false u rest x some e = e
two_no m n true false rest x some e = e
two_no m n true true rest x some e = absurd (some e)

pub query_no : (links q : List ℕ) (rest x : ℕ) → x ≢ 0 → x ≡ of_query links q 0 → x ≡ of_query links q rest
query_no links q rest x some e = two_no 4 6 _ _ rest x some e

pub query_yes : (links q : List ℕ) (rest : ℕ) → 0 ≡ of_query links q 0 → rest ≡ of_query links q rest
query_yes links q rest z =
    let l = ask_zero 3 (eqb (length q) (word_count (width_of links))) _ (sym z) in
    let n = ask_zero 5 (ltb (number_in q) (2 ^ width_of links)) 0 l.1 in
    sym (ask_yes 4 _ _ l.0 ∙ ask_yes 6 _ _ n.0)

-- what a yes to both says of the query: it has the words of the width, and the number fits
pub query_passed : (links q : List ℕ) → 0 ≡ of_query links q 0 → (length q ≡ word_count (width_of links)) × (number_in q < 2 ^ width_of links)
query_passed links q z =
    let l = ask_zero 3 _ _ (sym z) in
    (eqb-true _ _ l.0, ltb-true _ _ (ask_zero 5 _ _ l.1).0)

module _ (words links nodes q : List ℕ) (marks output : ℕ) where
  abbrev U : List ℕ
  U = unpacked links nodes

  abbrev A : Asked
  A = asks_tables words U

  abbrev fit : Bool
  fit = packed_fit links nodes && tables_fit A

  abbrev number : ℕ
  number = ask 4 (packed_fit links nodes) (search_refusal A q marks output)

  -- a no to the tables is the refusal, and their yes leaves the later questions
  pub number_unfit : (n : ℕ) → n ≢ 0 → n ≡ ask 4 fit 0 → n ≡ number
  unfolding search_refusal
  number_unfit n some e = go fit refl
    where
      go : (t : Bool) → fit ≡ t → n ≡ number
      go true y = absurd (some (e ∙ ask_yes 4 fit 0 y))
      go false y = e ∙ ask_no 4 fit 0 y ∙ sym (packed_no _ _ _ y (λ t. ask_no 4 _ _ (ap (λ (u : Bool). u && eqb (length q) (word_count A.width)) t)))

  pub number_later : 0 ≡ ask 4 fit 0 → of_query links q (buffers (blocks_of U) marks output) ≡ number
  unfolding search_refusal
  number_later z =
      let y = (ask_zero 3 fit 0 (sym z)).0 in
      let b = both {t = packed_fit links nodes} y in
      sym (packed_yes _ (tables_fit A) _ y ∙ rw (b.1, fit_width links nodes b.0))
