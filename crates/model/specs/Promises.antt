-- What each public call promises (document 01, "The questions, in order" and "Before a delivery is taken"): its answer, its counts
-- and every slice that it is lent, from the slices as they were (words) to the slices as they are left (words'). Every call has three
-- cases: a question refuses; the tables are sound; and what must hold of any tables. There is no fourth.
-- Assumes nothing.
use Rattle.std.specs.Prelude.{ℕ, zero, suc, ◌-◌, ◌≤◌, ◌≡◌, ◌≢◌, ◌⊎◌, true, false, length, drop}
use mathlib.Core.List.{List, [], ◌∷◌, ◌++◌, Memᴰ}
use Rattle.model.specs.Basics.{has, Ascending}
use Rattle.model.specs.Signature.{coversb}
use Rattle.model.specs.Tree.{compared, nodes_read}
use Rattle.model.specs.Wide.{number_in}
use Rattle.model.specs.Tables.{blocks_of, signatures_of, width_of, filed_of, signature_of, tree_of}
use Rattle.model.specs.Sound.{SoundLent}
use Rattle.model.specs.Clear.{clear_words, clear_links}
use Rattle.model.specs.File.{file_words, file_links}
use Rattle.model.specs.Withdraw.{withdraw_words, withdraw_links}
use Rattle.model.specs.Rebuild.{rebuild_links}
use Rattle.model.specs.Questions.{asks_tables, clear_refusal, file_refusal, withdraw_refusal, rebuild_refusal, search_refusal, audit_refusal}
use Rattle.model.specs.Ledger.{ledger_of, matching, Report, bare}

-- question 11's number
abbrev pub unsound : ℕ
unsound = 11

-- Clear: refused, or the cleared tables, whatever the old ones were.
pub record ClearPromise (words links : List ℕ) (F : ℕ) (answer : ℕ) (words' links' : List ℕ) : Type 0 where
  pub refused : clear_refusal (asks_tables words links) F ≢ 0 → (answer ≡ clear_refusal (asks_tables words links) F) × (words' ≡ words) × (links' ≡ links)
  pub done : clear_refusal (asks_tables words links) F ≡ 0 → (answer ≡ 0) × (words' ≡ clear_words (blocks_of links) F) × (links' ≡ clear_links (blocks_of links) F)

-- A change of the tables, by the number of its first no, to the words words⁺ and the links links⁺.
pub record Changes (refusal : ℕ) (words links words⁺ links⁺ : List ℕ) (answer : ℕ) (words' links' : List ℕ) : Type 0 where
  -- the first no decides, and nothing changes
  pub refused : refusal ≢ 0 → (answer ≡ refusal) × (words' ≡ words) × (links' ≡ links)
  -- sound tables get 0 and these tables
  pub done : refusal ≡ 0 → SoundLent words links → (answer ≡ 0) × (words' ≡ words⁺) × (links' ≡ links⁺)
  -- any tables get 0, and the slices stay as long as they were, or 11, and nothing changes
  pub anyway : refusal ≡ 0
      → ((answer ≡ 0) × (length words' ≡ length words) × (length links' ≡ length links)) ⊎ ((answer ≡ unsound) × (words' ≡ words) × (links' ≡ links))

-- File, by the signature's words
abbrev pub FilePromise : List ℕ → List ℕ → ℕ → List ℕ → ℕ → List ℕ → List ℕ → Type 0
FilePromise words links b s =
    Changes (file_refusal (asks_tables words links) b s) words links (file_words words links b s) (file_links (signatures_of words links) links b (number_in s))

-- Withdraw
abbrev pub WithdrawPromise : List ℕ → List ℕ → ℕ → ℕ → List ℕ → List ℕ → Type 0
WithdrawPromise words links b =
    Changes (withdraw_refusal (asks_tables words links) b) words links (withdraw_words words links b) (withdraw_links (signatures_of words links) links b)

-- A rebuilding of sound tables: the scratch is free in its first B words and unchanged beyond.
pub record Rebuilt (words links scratch : List ℕ) (answer : ℕ) (links' scratch' : List ℕ) : Type 0 where
  pub sound : SoundLent words links
  pub zero : answer ≡ 0
  pub made : links' ≡ rebuild_links (signatures_of words links) links
  pub long : length scratch' ≡ length scratch
  pub beyond : drop (blocks_of links) scratch' ≡ drop (blocks_of links) scratch

-- Rebuild: question 11 is asked in full.
pub record RebuildPromise (words links scratch : List ℕ) (answer : ℕ) (links' scratch' : List ℕ) : Type 0 where
  pub refused : rebuild_refusal (asks_tables words links) (length scratch) ≢ 0
      → (answer ≡ rebuild_refusal (asks_tables words links) (length scratch)) × (links' ≡ links) × (scratch' ≡ scratch)
  pub asked : rebuild_refusal (asks_tables words links) (length scratch) ≡ 0
      → Rebuilt words links scratch answer links' scratch' ⊎ ((SoundLent words links → ⊥) × (answer ≡ unsound) × (links' ≡ links) × (scratch' ≡ scratch))

-- Audit: it only reads.
pub record AuditPromise (words links : List ℕ) (answer : ℕ) : Type 0 where
  pub refused : audit_refusal (asks_tables words links) ≢ 0 → answer ≡ audit_refusal (asks_tables words links)
  pub asked : audit_refusal (asks_tables words links) ≡ 0 → ((answer ≡ 0) × SoundLent words links) ⊎ ((answer ≡ unsound) × (SoundLent words links → ⊥))

-- A search's marks: of the n blocks from b on, 1 for each listed block, else 0
unfoldable pub marks_from : List ℕ → ℕ → ℕ → List ℕ
marks_from list zero b = []
marks_from list (suc n) b = elim (has b list) [ true ↦ 1 | false ↦ 0 ] ∷ marks_from list n (suc b)

-- the marks after a search of B blocks that gave this list: the first B, then the old ones
abbrev pub marks_after : ℕ → List ℕ → List ℕ → List ℕ
marks_after B list marks = marks_from list B 1 ++ drop B marks

-- the output: the list, then the old words beyond it
abbrev pub output_after : List ℕ → List ℕ → List ℕ
output_after list output = list ++ drop (length list) output

-- a filed block whose signature covers q
pub record Matches (sigs links : List ℕ) (q b : ℕ) : Type 0 where
  pub from : 1 ≤ b
  pub to : b ≤ length sigs
  pub filed : filed_of links b ≢ 0
  pub covers : coversb (width_of links) (signature_of sigs b) q ≡ true

-- A search of any tables that answers 0: some list of filed covering blocks, ascending, none twice, after at most B - 1 nodes and B
-- compares; the marks and the output are that list's.
pub record Listing (sigs links : List ℕ) (q : ℕ) (marks output : List ℕ) (o : Report) (marks' output' : List ℕ) : Type 0 where
  pub zero : o.answer ≡ 0
  pub list : List ℕ
  pub matches : (b : ℕ) → Memᴰ b list → Matches sigs links q b
  pub ascending : Ascending list
  pub found : o.found ≡ length list
  pub few_compares : o.compares ≤ length sigs
  pub few_nodes : o.bits ≤ length sigs - 1
  pub marked : marks' ≡ marks_after (length sigs) list marks
  pub written : output' ≡ output_after list output

-- A search that gives 11: it may have changed the first B marks.
pub record GivenUp (sigs marks output : List ℕ) (o : Report) (marks' output' : List ℕ) : Type 0 where
  pub eleven : o ≡ bare unsound
  pub long : length marks' ≡ length marks
  pub beyond : drop (length sigs) marks' ≡ drop (length sigs) marks
  pub written : output' ≡ output

-- what a search of sound tables reports, by their ledger and their tree
abbrev pub search_report : List ℕ → List ℕ → ℕ → Report
search_report sigs links q = record {
  answer = 0;
  found = length (matching q (ledger_of sigs links));
  compares = length (compared (width_of links) q (tree_of sigs links));
  bits = nodes_read (width_of links) q (tree_of sigs links);
}

-- A search for q of the tables of these signatures, by the number of its first no.
pub record Searches (refusal : ℕ) (sound : Type 0) (sigs links : List ℕ) (q : ℕ) (marks output : List ℕ) (o : Report) (marks' output' : List ℕ) : Type 0 where
  -- the first no decides; counts are 0, and nothing changes
  pub refused : refusal ≢ 0 → (o ≡ bare refusal) × (marks' ≡ marks) × (output' ≡ output)
  -- sound tables get 0, the list of all blocks that match, its marks, and the counts of the tree
  pub done : refusal ≡ 0
      → sound
      → (o ≡ search_report sigs links q)
      × (marks' ≡ marks_after (length sigs) (matching q (ledger_of sigs links)) marks)
      × (output' ≡ output_after (matching q (ledger_of sigs links)) output)
  -- any tables get a list without a wrong block, or 11
  pub anyway : refusal ≡ 0 → Listing sigs links q marks output o marks' output' ⊎ GivenUp sigs marks output o marks' output'

-- Search, by the query's words
abbrev pub SearchPromise : List ℕ → List ℕ → List ℕ → List ℕ → List ℕ → Report → List ℕ → List ℕ → Type 0
SearchPromise words links q marks output =
    Searches (search_refusal (asks_tables words links) q (length marks) (length output)) (SoundLent words links) (signatures_of words links) links (number_in q) marks output
