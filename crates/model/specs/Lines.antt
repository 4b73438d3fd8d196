-- What a run of slips prints (document 01, "Edges and a run"), a line as a list of numbers: kind (byte 0), answer, found, compares,
-- bits read, then the blocks. It is computed three times: by the ledger and the plain tree, on the words of sound tables, and on their
-- packed words.
-- Assumes nothing.
use Rattle.std.specs.Prelude.{ℕ, zero, suc, max, true, false, List, [], ◌∷◌, eqb, length}
use Rattle.model.specs.Tree.{Tree, path}
use Rattle.model.specs.Tables.{tree_of, blocks_of, signatures_of}
use Rattle.model.specs.Packed.{unpacked, packed_links, packed_nodes}
use Rattle.model.specs.Clear.{clear_links, clear_words}
use Rattle.model.specs.File.{file_links, file_words}
use Rattle.model.specs.Withdraw.{withdraw_links, withdraw_words}
use Rattle.model.specs.Wide.{number_in}
use Rattle.model.specs.Rebuild.{rebuild_links}
use Rattle.model.specs.Questions.{asks_tables, Work, Call, clear, file, withdraw, rebuild, search, audit, refusal, kind_in, Reading, refused, carries, read_slip}
use Rattle.model.specs.Ledger.{Ledger, matching, ledger_of, asks_ledger, ledger_after, tree_after, Report, bare, report_by}
use Rattle.model.specs.Promises.{search_report}
use Rattle.model.specs.PackedPromises.{asks_packed}

-- a slip of numbers below 256: kind, block (for a clear the width), signature or query
unfoldable pub slip_of : ℕ → ℕ → ℕ → List ℕ
slip_of kind block signature = kind ∷ 0 ∷ 0 ∷ 0 ∷ 0 ∷ 0 ∷ 0 ∷ block ∷ 0 ∷ 0 ∷ 0 ∷ 0 ∷ 0 ∷ 0 ∷ 0 ∷ signature ∷ []

-- a line
abbrev pub line_of : List ℕ → Report → List ℕ → List ℕ
line_of bytes o blocks = kind_in bytes ∷ o.answer ∷ o.found ∷ o.compares ∷ o.bits ∷ blocks

-- the blocks that a call lists: those that match, for a search
abbrev pub listed_by : Ledger → Call → List ℕ
listed_by L (clear F) = []
listed_by L (file b s) = []
listed_by L (withdraw b) = []
listed_by L rebuild = []
listed_by L (search q) = matching (number_in q) L
listed_by L audit = []

-- By the ledger and the plain tree: a refused call lists nothing.
abbrev pub list_by : Ledger → ℕ → Work → Reading → List ℕ
list_by L n W (refused m) = []
list_by L n W (carries c) = elim (eqb (refusal (asks_ledger L n) W c) 0) [ true ↦ listed_by L c | false ↦ [] ]

-- n words are lent for signatures, all along
unfoldable pub lines_by : ℕ → Work → Ledger → Tree → List (List ℕ) → List (List ℕ)
lines_by n W L t [] = []
lines_by n W L t (bytes ∷ rest) =
    let r = read_slip (asks_ledger L n) bytes in
    line_of bytes (report_by L t n W r) (list_by L n W r) ∷ lines_by n W (ledger_after L n W r) (tree_after L t n W r) rest

-- the plain tree after a run
unfoldable pub tree_by : ℕ → Work → Ledger → Tree → List (List ℕ) → Tree
tree_by n W L t [] = t
tree_by n W L t (bytes ∷ rest) =
    let r = read_slip (asks_ledger L n) bytes in
    tree_by n W (ledger_after L n W r) (tree_after L t n W r) rest

-- On the words of sound tables: what a call that is not refused reports, and the two tables that it leaves.
abbrev pub done_on : List ℕ → List ℕ → Call → Report
done_on words links (clear F) = bare 0
done_on words links (file b s) = bare 0
done_on words links (withdraw b) = bare 0
done_on words links rebuild = bare 0
done_on words links (search q) = search_report (signatures_of words links) links (number_in q)
done_on words links audit = bare 0

abbrev pub lent_after : List ℕ → List ℕ → Call → List ℕ
lent_after words links (clear F) = clear_words (blocks_of links) F
lent_after words links (file b s) = file_words words links b s
lent_after words links (withdraw b) = withdraw_words words links b
lent_after words links rebuild = words
lent_after words links (search q) = words
lent_after words links audit = words

abbrev pub links_after : List ℕ → List ℕ → Call → List ℕ
links_after words links (clear F) = clear_links (blocks_of links) F
links_after words links (file b s) = file_links (signatures_of words links) links b (number_in s)
links_after words links (withdraw b) = withdraw_links (signatures_of words links) links b
links_after words links rebuild = rebuild_links (signatures_of words links) links
links_after words links (search q) = links
links_after words links audit = links

-- the tables that a call of this refusal number leaves, given to what comes next
abbrev pub onward {ℓ} : {A : Type ℓ} → (List ℕ → List ℕ → A) → ℕ → List ℕ → List ℕ → Call → A
onward next zero words links c = next (lent_after words links c) (links_after words links c)
onward next (suc n) words links c = next words links

-- a call's line on the tables
abbrev pub line_on : List ℕ → ℕ → List ℕ → List ℕ → Call → List ℕ
line_on bytes zero words links c = line_of bytes (done_on words links c) (listed_by (ledger_of (signatures_of words links) links) c)
line_on bytes (suc n) words links c = line_of bytes (bare (suc n)) []

-- one slip's line, then those that come next, on the tables that it leaves
abbrev pub read_on : (List ℕ → List ℕ → List (List ℕ)) → Work → List ℕ → Reading → List ℕ → List ℕ → List (List ℕ)
read_on next W bytes (refused n) words links = line_of bytes (bare n) [] ∷ next words links
read_on next W bytes (carries c) words links =
    line_on bytes (refusal (asks_tables words links) W c) words links c ∷ onward next (refusal (asks_tables words links) W c) words links c

unfoldable pub lines_on : Work → List (List ℕ) → List ℕ → List ℕ → List (List ℕ)
lines_on W [] words links = []
lines_on W (bytes ∷ rest) words links = read_on (lines_on W rest) W bytes (read_slip (asks_tables words links) bytes) words links

-- the tree from the root of the tables after a run
abbrev pub tree_read : (List ℕ → List ℕ → Tree) → Work → Reading → List ℕ → List ℕ → Tree
tree_read next W (refused n) words links = next words links
tree_read next W (carries c) words links = onward next (refusal (asks_tables words links) W c) words links c

unfoldable pub tree_on : Work → List (List ℕ) → List ℕ → List ℕ → Tree
tree_on W [] words links = tree_of (signatures_of words links) links
tree_on W (bytes ∷ rest) words links = tree_read (tree_on W rest) W (read_slip (asks_tables words links) bytes) words links

-- On packed words: a call finds the tables that they hold, and leaves its own packed.
abbrev pub packed_next {ℓ} : {A : Type ℓ} → (List ℕ → List ℕ → List ℕ → A) → List ℕ → List ℕ → A
packed_next next words links = next words (packed_links (blocks_of links) links) (packed_nodes (blocks_of links) links)

unfoldable pub lines_packed : Work → List (List ℕ) → List ℕ → List ℕ → List ℕ → List (List ℕ)
lines_packed W [] words links nodes = []
lines_packed W (bytes ∷ rest) words links nodes =
    read_on (packed_next (lines_packed W rest)) W bytes (read_slip (asks_packed words links nodes) bytes) words (unpacked links nodes)

unfoldable pub tree_packed : Work → List (List ℕ) → List ℕ → List ℕ → List ℕ → Tree
tree_packed W [] words links nodes = tree_of (signatures_of words (unpacked links nodes)) (unpacked links nodes)
tree_packed W (bytes ∷ rest) words links nodes =
    tree_read (packed_next (tree_packed W rest)) W (read_slip (asks_packed words links nodes) bytes) words (unpacked links nodes)

-- the longest of the paths of some signatures
unfoldable pub longest_path : Tree → List ℕ → ℕ
longest_path t [] = 0
longest_path t (s ∷ ss) = max (length (path s t)) (longest_path t ss)
