-- The search keeps its promise, on all inputs: a question refuses it, or it is exact on sound tables and lists or stops on any.
-- Assumes nothing.
use Prim.Native.Nat.{ℕ, ◌≤◌}
use native.Mathlib.Omega.{arith}
use mathlib.Core.Path.{◌≡◌, refl, sym, ◌∙◌, ap, ap₂, subst}
use mathlib.Core.Logic.{◌≢◌}
use mathlib.Core.Bool.{◌&&◌}
use mathlib.Core.List.{List}
use lib.ListN.{length}
use Rattle.answers.specs.declared.refusal.Refusal.{Refusal}
use Rattle.answers.specs.declared.refusal.Refusal.TheVariants.{NotASlip, UnknownKind, FieldUsed, Unfit, NoBlock, TooLarge, Filed, NotFiled, ShortScratch, ShortOutput, Unsound, LongText, NoSuchCount}
use Rattle.answers.specs.Answers.{number_of}
use Rattle.model.specs.Wide.{number_in}
use Rattle.model.specs.Tree.{Tree, compared, nodes_read}
use Rattle.model.specs.Tables.{width_of, blocks_of, tree_of, signatures_of}
use Rattle.model.specs.Sound.{SoundLent}
use Rattle.model.specs.Questions.{ask, asks_tables, tables_fit, search_refusal}
use Rattle.model.specs.Ledger.{Report, bare, ledger_of, matching}
use Rattle.model.specs.Promises.{output_after, SearchPromise}
use Rattle.model.specs.Packed.{unpacked}
use Rattle.model.specs.PackedPromises.{packed_fit, PackedSearch}
use Rattle.model.proofs.Asking.{true_false, ask_zero}
use Rattle.model.proofs.Wide.{signatures_length}
use Rattle.tables.specs.declared.packed.Tables.{Tables}
use Rattle.tables.specs.Held.{signatures_held, blocks_held, held}
use Rattle.search.proofs.Asking.{ask_yes, ask_no, of_query, buffers, buffers_passed, query_no, query_yes, number_unfit, number_later}
use Rattle.search.specs.Search.{found_twin}
use Rattle.search.proofs.Any.{lists_or_stops}
use Rattle.search.proofs.Exact.{search_exact}

module _ (words links q m out : List ℕ) where
  -- the number of the first no
  abbrev pub refusal : ℕ
  refusal = search_refusal (asks_tables words links) q (length m) (length out)

  abbrev sigs : List ℕ
  sigs = signatures_of words links

  abbrev Keeps : Report × List ℕ × List ℕ → Type 0
  Keeps o = SearchPromise words links q m out o.0 o.1 o.2

  pub refused_keeps : (o : Report) → o ≡ bare refusal → refusal ≢ 0 → SearchPromise words links q m out o m out
  refused_keeps o e h = record { refused = λ _. (e, refl, refl); done = λ z. absurd (h z); anyway = λ z. absurd (h z) }

  found_keeps : refusal ≡ 0 → length sigs ≤ length m → Keeps (found_twin sigs links (number_in q) m out)
  found_keeps z le = record {
    refused = λ h. absurd (h z);
    done = λ _ S. search_exact sigs links (number_in q) m out S.sound le;
    anyway = λ _. lists_or_stops sigs links (number_in q) m out le;
  }

  -- an outcome that is the walk's, as the code's contract has it
  pub keeps : refusal ≡ 0 → length sigs ≤ length m → (o : Report × List ℕ × List ℕ) → o ≡ found_twin sigs links (number_in q) m out → Keeps o
  keeps z le o e = subst Keeps (sym e) (found_keeps z le)

-- the same of packed tables: question 4 asks for their lengths first
module _ (words links nodes q m out : List ℕ) where
  abbrev U : List ℕ
  U = unpacked links nodes

  abbrev number : ℕ
  number = ask 4 (packed_fit links nodes) (refusal words U q m out)

  pub refused_packed : (o : Report) → o ≡ bare number → number ≢ 0 → PackedSearch words links nodes q m out o m out
  refused_packed o e h = record {
    unfit = λ f. let b : o ≡ bare 4 = e ∙ ap bare (ask_no 4 _ _ f) in (ap (λ (r : Report). r.answer) b, (b, refl, refl));
    asked = λ f. let z : number ≡ refusal words U q m out = ask_yes 4 _ _ f in refused_keeps words U q m out o (e ∙ ap bare z) (λ x. h (z ∙ x));
  }

  pub keeps_packed : number ≡ 0 → length (signatures_of words U) ≤ length m → (o : Report × List ℕ × List ℕ) → o ≡ found_twin (signatures_of words U) U (number_in q) m out
      → PackedSearch words links nodes q m out o.0 o.1 o.2
  keeps_packed z le o e =
      let y = ask_zero 3 (packed_fit links nodes) _ z in
      record { unfit = λ f. true_false y.0 f; asked = λ _. keeps words U q m out y.1 le o e }

-- a refusal has a number, which is not 0
some_number : (e : Refusal) → number_of e ≡ 0 → ⊥
some_number e z = absurd (omega (arith, z, some e))
  where
    some : (e : Refusal) → 1 ≤ number_of e
    some NotASlip = omega arith
    some UnknownKind = omega arith
    some FieldUsed = omega arith
    some Unfit = omega arith
    some NoBlock = omega arith
    some TooLarge = omega arith
    some Filed = omega arith
    some NotFiled = omega arith
    some ShortScratch = omega arith
    some ShortOutput = omega arith
    some Unsound = omega arith
    some LongText = omega arith
    some NoSuchCount = omega arith

-- The code asks question 4 of the tables where it makes them, and the later questions of the tables that it has then.
module _ (words links nodes q m out : List ℕ) where
  abbrev Old : List ℕ
  Old = unpacked links nodes

  abbrev Refused : Refusal → Type 0
  Refused e = PackedSearch words links nodes q m out (bare (number_of e)) m out

  abbrev passed_to : ℕ → Type 0
  passed_to n = n ≡ ask 4 (packed_fit links nodes && tables_fit (asks_tables words Old)) 0

  refused_by : (e : Refusal) → number_of e ≡ ask 4 (packed_fit links nodes) (refusal words Old q m out) → Refused e
  refused_by e n = refused_packed words links nodes q m out _ (ap bare n) (λ z. some_number e (n ∙ z))

  pub refused_unfit : (e : Refusal) → passed_to (number_of e) → Refused e
  refused_unfit e d = refused_by e (number_unfit words links nodes q (length m) (length out) _ (some_number e) d)

  module _ (t : Tables) (read : (t.rows.signatures.now ≡ words) × (t.rows.links.now ≡ links) × (t.nodes.now ≡ nodes)) (fit : passed_to 0) where
    abbrev later : ℕ → ℕ
    later n = of_query t.rows.links.now q n

    spelt : signatures_held t ≡ signatures_of words Old
    spelt = t.fits.spelt ∙ ap₂ signatures_of read.0 (ap₂ unpacked read.1 read.2)

    count : blocks_held t ≡ blocks_of Old
    count = ap (λ (s : List ℕ). length s) spelt ∙ signatures_length _ _ words

    asked : later (buffers (blocks_held t) (length m) (length out)) ≡ ask 4 (packed_fit links nodes) (refusal words Old q m out)
    asked = rw (read.1, count) (number_later words links nodes q (length m) (length out) fit)

    pub refused_query : (e : Refusal) → number_of e ≡ later 0 → Refused e
    refused_query e d = refused_by e (query_no t.rows.links.now q _ _ (some_number e) d ∙ asked)

    module _ (low : 0 ≡ later 0) where
      pub refused_buffers : (e : Refusal) → number_of e ≡ buffers (blocks_held t) (length m) (length out) → Refused e
      refused_buffers e d = refused_by e (d ∙ query_yes t.rows.links.now q _ low ∙ asked)

      pub passed : 0 ≡ buffers (blocks_held t) (length m) (length out) → (o : Report × List ℕ × List ℕ) → o ≡ found_twin (signatures_held t) (held t) (number_in q) m out
          → PackedSearch words links nodes q m out o.0 o.1 o.2
      passed z o e =
          let le = (buffers_passed (blocks_held t) (length m) (length out) z).0 in
          keeps_packed words links nodes q m out (sym (z ∙ query_yes t.rows.links.now q _ low ∙ asked)) (rw spelt at le) o (rw (spelt, read.1, read.2) at e)

-- What the promise says of sound tables, each by itself. Here o is what the search reported.
module _ (words links q m out : List ℕ) (o : Report) (m' out' : List ℕ) (P : SearchPromise words links q m out o m' out') (S : SoundLent words links) where
  abbrev listed : List ℕ
  listed = matching (number_in q) (ledger_of (signatures_of words links) links)

  abbrev walked : Tree
  walked = tree_of (signatures_of words links) links

  module _ (z : refusal words links q m out ≡ 0) where
    -- the output starts with the ledger's matching blocks, and `found` counts them
    pub lists_matching : (out' ≡ output_after listed out) × (o.found ≡ length listed)
    lists_matching = ((P.done z S).2, ap (λ (r : Report). r.found) (P.done z S).0)

    -- compares and bits read are the plain tree's
    pub counts_of_tree : (o.compares ≡ length (compared (width_of links) (number_in q) walked)) × (o.bits ≡ nodes_read (width_of links) (number_in q) walked)
    counts_of_tree = (ap (λ (r : Report). r.compares) (P.done z S).0, ap (λ (r : Report). r.bits) (P.done z S).0)
