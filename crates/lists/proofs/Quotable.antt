-- Ticket 14 says something of every two sound stores, in either form: each can be rebuilt, lent a scratch of B words, and can then be asked
-- for any query that fits its width.
-- Assumes nothing.
use Prim.Native.Nat.{ℕ, ◌*◌, ◌^◌, ◌≤◌, ◌<◌}
use native.Mathlib.Nat.{lt_of_lt_of_le}
use native.Mathlib.Omega.{arith}
use mathlib.Core.Path.{◌≡◌, refl, sym, ◌∙◌, ap, subst}
use mathlib.Core.Logic.{inl}
use mathlib.Core.Bool.{true}
use mathlib.Core.List.{List, [], ◌∷◌}
use lib.ListN.{length, replicate, length-replicate}
use lib.Pow.{pow_mono}
use lib.Seq.{length-take-le}
use borrow.Author.Tests.{le-leb, lt-ltb, eq-eqb}
use Rattle.model.specs.Limits.{word_bits}
use Rattle.model.specs.Wide.{word_count, number_in, words_for}
use Rattle.model.specs.Tables.{blocks_of, signatures_of, width_of, tree_of}
use Rattle.model.specs.Sound.{SoundLent}
use Rattle.model.specs.Rebuild.{rebuild_links}
use Rattle.model.specs.Packed.{rows_of, packed_blocks, unpacked, packed_links, packed_nodes}
use Rattle.model.specs.Questions.{Asked, asks_tables, ask, tables_fit, words_fit, is_signature, rebuild_refusal, search_refusal, Work, rebuild, search, carries}
use Rattle.model.specs.Ledger.{Ledger, ledger_of, matching, Report, bare}
use Rattle.model.specs.Promises.{marks_after, output_after, search_report}
use Rattle.model.specs.Lists.{Memory, Gives, direct, reading, own, Step}
use Rattle.model.specs.Claim.{sound}
use Rattle.model.specs.PackedPromises.{packed_fit, Stays}
use Rattle.model.specs.PackedLists.{PackedMemory, PackedGives, PackedStep}
use Rattle.model.specs.SameQuote.{run, Quoted, SameWidth, SameSet, SameCounts}
use Rattle.model.proofs.Packing.{fit_packs, fit_told, fit_stays}
use Rattle.model.proofs.Wide.{signatures_length, words_length, number_words}
use Rattle.tables.proofs.Fits.{fits_of}
use Rattle.convert.proofs.Fitting.{pack_unpack, nodes_long}
use Rattle.lists.proofs.Packed.{packed_gives}
use Rattle.lists.proofs.Searching.{search_found}
use Rattle.lists.proofs.Moves.{rebuild_blocks, rebuild_moves}
use Rattle.lists.proofs.SameQuote.{same_quote, packed_quoted}

rebuild_passes : (A : Asked) (n : ℕ) → tables_fit A ≡ true → A.blocks ≤ n → rebuild_refusal A n ≡ 0
unfolding rebuild_refusal ask
rebuild_passes A n f h = rw (f, le-leb A.blocks n h)

search_passes : (A : Asked) (q : List ℕ) (n : ℕ) → words_fit A q ≡ true → is_signature A q ≡ true → A.blocks ≤ n → search_refusal A q n n ≡ 0
unfolding search_refusal ask
search_passes A q n f s h = rw (f, s, le-leb A.blocks n h)

-- sound tables fit
sound_fits : (words links : List ℕ) → SoundLent words links → tables_fit (asks_tables words links) ≡ true
sound_fits words links S =
    let n = signatures_length (word_count (width_of links)) (blocks_of links) words in
    (fits_of words links).1 (record { fits = S.sound.fits; spelt = refl; long = S.long ∙ ap (λ (B : ℕ). B * word_count (width_of links)) (sym n) })

-- a number below 2 ^ F has W words
query_number : (F q : ℕ) → q < 2 ^ F → number_in (words_for (word_count F) q) ≡ q
query_number F q h = let l : F ≤ word_bits * word_count F = omega arith in number_words (word_count F) q (lt_of_lt_of_le h (pow_mono l))

module _ (words links : List ℕ) (S : SoundLent words links) (q : ℕ) (fits : q < 2 ^ width_of links) where
  abbrev slice : List ℕ
  slice = replicate (blocks_of links) 0

  abbrev lent : Work
  lent = record { scratch = slice; marks = slice; output = slice }

  abbrev after : List ℕ
  after = rebuild_links (signatures_of words links) links

  abbrev query : List ℕ
  query = words_for (word_count (width_of links)) q

  asked : number_in query ≡ q
  asked = query_number (width_of links) q fits

  -- the memory before, after the rebuild, and after the search
  abbrev first : Memory
  first = record { signatures = words; links = links; work = lent }

  abbrev second : Memory
  second = record { signatures = words; links = after; work = lent }

  abbrev sigs : List ℕ
  sigs = signatures_of words after

  abbrev found : List ℕ
  found = matching (number_in query) (ledger_of sigs after)

  abbrev report : Report
  report = search_report sigs after (number_in query)

  abbrev third : Memory
  third = record { signatures = words; links = after; work = record { scratch = slice; marks = marks_after (length sigs) found slice; output = output_after found slice } }

  long : (n : ℕ) → n ≡ blocks_of links → n ≤ length slice
  long n e = omega (arith, length-replicate {A = ℕ} (blocks_of links) 0)

  rebuild_zero : rebuild_refusal (asks_tables words links) (length slice) ≡ 0
  rebuild_zero = rebuild_passes (asks_tables words links) (length slice) (sound_fits words links S) (long (blocks_of links) refl)

  rebuild_given : Gives rebuild first (bare 0) second
  rebuild_given = (
    record {
      refused = λ n. absurd (n rebuild_zero);
      asked = λ _. inl (record { sound = S; zero = refl; made = refl; long = refl; beyond = refl });
    },
    record { counts = refl; signatures = refl; marks = refl; output = refl },
  )

  sound_after : SoundLent words after
  sound_after = (rebuild_moves words links S).sound

  same_width : width_of after ≡ width_of links
  same_width = ap (λ (L : Ledger). L.width) (rebuild_moves words links S).ledger

  query_fits : words_fit (asks_tables words after) query ≡ true
  query_fits =
      let n : length query ≡ word_count (width_of after) = words_length (word_count (width_of links)) q ∙ ap word_count (sym same_width) in
      rw (sound_fits words after sound_after, eq-eqb (length query) (word_count (width_of after)) n)

  query_small : is_signature (asks_tables words after) query ≡ true
  query_small = rw (asked, same_width, lt-ltb q (2 ^ width_of links) fits)

  search_zero : search_refusal (asks_tables words after) query (length slice) (length slice) ≡ 0
  search_zero = search_passes (asks_tables words after) query (length slice) query_fits query_small (long (blocks_of after) (rebuild_blocks words links S))

  search_given : Gives (search query) second report third
  search_given = (search_found words after sound_after query slice slice search_zero, record { signatures = refl; links = refl; scratch = refl })

  abbrev rebuilt : Step
  rebuilt = record { request = direct rebuild; slice = own; lent = lent; report = bare 0; left = second }

  abbrev searched : Step
  searched = record { request = direct (search query); slice = own; lent = lent; report = report; left = third }

  -- the store rebuilt and asked
  pub quoted : Quoted q
  unfolding reading
  quoted = record {
    ledger = ledger_of (signatures_of words links) links;
    tree = tree_of (signatures_of words links) links;
    words = words;
    calls = [];
    rebuilt = rebuilt;
    between = [];
    searched = searched;
    ran = run links (sound S) (rebuilt ∷ searched ∷ []) (rebuild_given, tt, (search_given, tt, tt));
    rebuilds = record { asks = refl; zero = refl };
    still = tt;
    query = query;
    asked = asked;
    searches = record { asks = refl; zero = refl };
  }

-- The same of packed tables: what the other form leaves, packed.
module _ (words links nodes : List ℕ) (f : packed_fit links nodes ≡ true) (S : SoundLent words (unpacked links nodes)) (q : ℕ) (fits : q < 2 ^ width_of (unpacked links nodes)) where
  abbrev U : List ℕ
  U = unpacked links nodes

  abbrev W : Work
  W = lent words U S q fits

  abbrev made : List ℕ
  made = after words U S q fits

  abbrev asks : List ℕ
  asks = query words U S q fits

  abbrev B : ℕ
  B = length (signatures_of words made)

  abbrev rows : List ℕ
  rows = packed_links B made

  abbrev rest : List ℕ
  rest = packed_nodes B made

  abbrev left : Work → PackedMemory
  left work = record { signatures = words; links = rows; nodes = rest; work = work }

  abbrev rebuilt_packed : PackedStep
  rebuilt_packed = record { request = direct rebuild; slice = own; lent = W; report = bare 0; left = left W }

  abbrev searched_packed : PackedStep
  searched_packed = record { request = direct (search asks); slice = own; lent = W; report = report words U S q fits; left = left (third words U S q fits).work }

  holds : unpacked rows rest ≡ made
  holds = pack_unpack (signatures_of words made) made (sound_after words U S q fits).sound

  as_many : B ≡ packed_blocks links
  as_many = signatures_length (word_count (width_of made)) (blocks_of made) words ∙ rebuild_blocks words U S ∙ fit_told links nodes f

  stays : Stays 0 links nodes rows rest
  stays =
      let F = (sound_after words U S q fits).sound.fits in
      let P = fit_packs links nodes f in
      let n = nodes_long B made F.blocks_from F.links_long in
      record {
        rows_long = length-take-le (rows_of B) made (omega (arith, F.links_long, F.blocks_from)) ∙ ap rows_of as_many ∙ sym P.rows_long;
        nodes_long = omega (arith, n, P.nodes_long, as_many);
        untouched = λ z. absurd (z refl);
      }

  abbrev start : PackedMemory
  start = record { signatures = words; links = links; nodes = nodes; work = W }

  rebuild_packed : PackedGives (carries rebuild) start (bare 0) (left W)
  rebuild_packed =
      packed_gives rebuild start (bare 0) (left W) f
      (subst (λ (l : List ℕ). Gives rebuild (first words U S q fits) (bare 0) (record { signatures = words; links = l; work = W })) (sym holds) (rebuild_given words U S q fits)) stays

  fit_after : packed_fit rows rest ≡ true
  fit_after = fit_stays links nodes rows rest stays.rows_long stays.nodes_long f

  search_packed : PackedGives (carries (search asks)) (left W) (report words U S q fits) searched_packed.left
  search_packed =
      packed_gives (search asks) (left W) (report words U S q fits) searched_packed.left fit_after
      (subst (λ (l : List ℕ). Gives (search asks) (record { signatures = words; links = l; work = W }) (report words U S q fits) (record { signatures = words; links = l; work = (third words U S q fits).work })) (sym holds) (search_given words U S q fits))
      (record { rows_long = refl; nodes_long = refl; untouched = λ _. (refl, refl) })

  pub quoted_packed : Quoted q
  unfolding reading
  quoted_packed =
      packed_quoted q words links nodes f (ledger_of (signatures_of words U) U) (tree_of (signatures_of words U) U) (sound S) [] rebuilt_packed [] searched_packed
      (rebuild_packed, tt, (search_packed, tt, tt)) (record { asks = refl; zero = refl }) tt asks (asked words U S q fits) (record { asks = refl; zero = refl })

-- the ledger of packed tables
abbrev ledger_held : List ℕ → List ℕ → List ℕ → Ledger
ledger_held words links nodes = ledger_of (signatures_of words (unpacked links nodes)) (unpacked links nodes)

-- any two sound stores with the same set, at one width, and any query that fits
pub same_stores : (words links nodes words' links' nodes' : List ℕ) (f : packed_fit links nodes ≡ true) (f' : packed_fit links' nodes' ≡ true)
    → (S : SoundLent words (unpacked links nodes)) (S' : SoundLent words' (unpacked links' nodes')) (q : ℕ) (h : q < 2 ^ width_of (unpacked links nodes)) (h' : q < 2 ^ width_of (unpacked links' nodes'))
    → SameWidth (ledger_held words links nodes) (ledger_held words' links' nodes') → SameSet (ledger_held words links nodes) (ledger_held words' links' nodes')
    → SameCounts (quoted_packed words links nodes f S q h).searched (quoted_packed words' links' nodes' f' S' q h').searched
unfolding quoted_packed packed_quoted
same_stores words links nodes words' links' nodes' f f' S S' q h h' = same_quote.same_set q (quoted_packed words links nodes f S q h) (quoted_packed words' links' nodes' f' S' q h')
