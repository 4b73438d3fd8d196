-- A search of sound tables: its counts are the ledger's and the plain tree's, and the bounds of document 01 hold of them, since the
-- tree is proper and its leaves are the stored signatures. And there is one: the blocks that match and the tree's counts keep the promise.
-- Assumes nothing.
use Prim.Native.Nat.{ℕ, ◌-◌, ◌≤◌}
use native.Mathlib.Omega.{arith}
use mathlib.Core.Path.{◌≡◌, refl, sym, ◌∙◌, ap, subst}
use mathlib.Core.Logic.{inl}
use mathlib.Core.List.{List, [], ◌∷◌}
use lib.ListN.{length}
use Rattle.model.specs.Tree.{signatures, reached, compared, nodes_read}
use Rattle.model.specs.Wide.{number_in}
use Rattle.model.specs.Basics.{once}
use Rattle.model.specs.Signature.{coversb}
use Rattle.model.specs.Tables.{signatures_of, width_of, tree_of}
use Rattle.model.specs.Sound.{Sound, SoundLent}
use Rattle.model.specs.Questions.{asks_tables, search_refusal, Work, search}
use Rattle.model.specs.Ledger.{Entry, unfiled, pair, Ledger, pair_signatures, stored, matching, ledger_of, Report, done_by}
use Rattle.model.specs.Promises.{marks_after, output_after, Matches, Listing, search_report, SearchPromise}
use Rattle.model.specs.Claim.{Searched}
use Rattle.model.proofs.Members.{once_in, once_distinct, same_length}
use Rattle.model.proofs.Pigeon.{distinct_fits}
use Rattle.model.proofs.Matching.{MatchIn, matching_in, matching_ascends}
use Rattle.model.proofs.Compared.{compared_reached, reached_same, reached_few, nodes_few, nodes_compares}
use Rattle.model.proofs.Powers.{compared_powers}
use Rattle.tables.proofs.Entries.{entry_is, entries_length, entries_of}
use Rattle.tables.proofs.Stored.{sound_proper, stored_leaves}

module _ (sigs links : List ℕ) (S : Sound sigs links) (words : List ℕ) where
  -- the query's number
  abbrev q : ℕ
  q = number_in words

  -- the leaves compared are as many as the stored signatures whose path has no 0 edge where the query has a 1
  compares : length (compared (width_of links) q (tree_of sigs links)) ≡ length (reached (width_of links) q (tree_of sigs links) (stored (ledger_of sigs links)))
  compares =
      ap length (compared_reached (width_of links) q (tree_of sigs links) (sound_proper sigs links S))
      ∙ sym (reached_same (width_of links) q (tree_of sigs links) (stored (ledger_of sigs links)) (signatures (tree_of sigs links)) (stored_leaves sigs links S))

  pub search_report_is : search_report sigs links (number_in words) ≡ done_by (ledger_of sigs links) (tree_of sigs links) (search words)
  search_report_is =
      ap (λ (n : ℕ). record { answer = 0; found = length (matching q (ledger_of sigs links)); compares = n; bits = nodes_read (width_of links) q (tree_of sigs links) }) compares

  pub search_bounds : (W W' : Work) (o : Report) → o ≡ search_report sigs links (number_in words)
      → W'.marks ≡ marks_after (length sigs) (matching (number_in words) (ledger_of sigs links)) W.marks → W'.output ≡ output_after (matching (number_in words) (ledger_of sigs links)) W.output
      → Searched (ledger_of sigs links) (tree_of sigs links) (number_in words) W o W'
  search_bounds W W' o e m w =
      subst (λ (x : Report). Searched (ledger_of sigs links) (tree_of sigs links) q W x W') (sym e) (record {
        listed = w;
        marked = m ∙ ap (λ (n : ℕ). marks_after n (matching q (ledger_of sigs links)) W.marks) (sym (entries_length sigs links (length sigs) 1));
        compares_stored = subst (λ (n : ℕ). n ≤ length (stored (ledger_of sigs links))) (sym compares) (reached_few (width_of links) q (tree_of sigs links) (stored (ledger_of sigs links)));
        compares_zeros = compared_powers (width_of links) q (tree_of sigs links) (sound_proper sigs links S);
        bits_stored = subst (λ (n : ℕ). nodes_read (width_of links) q (tree_of sigs links) ≤ n - 1)
            (sym (same_length (stored (ledger_of sigs links)) (signatures (tree_of sigs links)) (stored_leaves sigs links S))) (nodes_few (width_of links) q (tree_of sigs links) (sound_proper sigs links S));
        bits_compares = nodes_compares (width_of links) q (tree_of sigs links) (sound_proper sigs links S);
      })

-- no more distinct signatures are stored than there are blocks
pairs_few : (es : List Entry) → length (pair_signatures es) ≤ length es
pairs_few [] = omega arith
pairs_few (unfiled ∷ es) = omega (arith, pairs_few es)
pairs_few (pair s ∷ es) = omega (arith, pairs_few es)

stored_few : (L : Ledger) → length (stored L) ≤ length L.entries
stored_few L =
    let l = pair_signatures L.entries in
    omega (arith, distinct_fits (once l) l (once_distinct l) (once_in l), pairs_few L.entries)

-- what a search of sound tables gives that no question refuses
module _ (words links : List ℕ) (S : SoundLent words links) (query marks output : List ℕ) where
  abbrev spelt : List ℕ
  spelt = signatures_of words links

  abbrev L : Ledger
  L = ledger_of spelt links

  abbrev found : List ℕ
  found = matching (number_in query) L

  block_matches : (b : ℕ) → MatchIn L (number_in query) b → Matches spelt links (number_in query) b
  block_matches b m =
      let n = entries_length spelt links (length spelt) 1 in
      let to : b ≤ length spelt = omega (arith, m.to) in
      let x = entry_is spelt links b m.signature (sym (entries_of spelt links (length spelt) b m.from to) ∙ m.its) in
      record { from = m.from; to = to; filed = x.0; covers = ap (λ (s : ℕ). coversb (width_of links) s (number_in query)) x.1 ∙ m.covers }

  blocks_few : length (stored L) ≤ length spelt
  blocks_few = let n = entries_length spelt links (length spelt) 1 in omega (arith, stored_few L)

  listing : Listing spelt links (number_in query) marks output (search_report spelt links (number_in query)) (marks_after (length spelt) found marks) (output_after found output)
  listing =
      let W : Work = record { scratch = []; marks = marks; output = output } in
      let W' : Work = record { scratch = []; marks = marks_after (length spelt) found marks; output = output_after found output } in
      let x = search_bounds spelt links S.sound query W W' (search_report spelt links (number_in query)) refl refl refl in
      let few = blocks_few in
      record {
        zero = refl;
        list = found;
        matches = λ b m. block_matches b (matching_in L (number_in query) b m);
        ascending = matching_ascends L (number_in query);
        found = refl;
        few_compares = omega (arith, x.compares_stored);
        few_nodes = omega (arith, x.bits_stored);
        marked = refl;
        written = refl;
      }

  pub search_found : search_refusal (asks_tables words links) query (length marks) (length output) ≡ 0
      → SearchPromise words links query marks output (search_report (signatures_of words links) links (number_in query))
      (marks_after (length (signatures_of words links)) (matching (number_in query) (ledger_of (signatures_of words links) links)) marks)
      (output_after (matching (number_in query) (ledger_of (signatures_of words links) links)) output)
  search_found z = record { refused = λ h. absurd (h z); done = λ _ _. (refl, refl, refl); anyway = λ _. inl listing }
