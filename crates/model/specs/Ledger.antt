-- The ledger and the plain tree that goes with it (document 01, "The calls"). Both are kept from the calls' arguments alone.
-- Assumes nothing.
use Rattle.std.specs.Prelude.{ℕ, zero, suc, ◌-◌, Bool, true, false, List, [], ◌∷◌, eqb, length, get_or, set, replicate}
use Rattle.model.specs.Basics.{has, once}
use Rattle.model.specs.Signature.{coversb}
use Rattle.model.specs.Wide.{number_in}
use Rattle.model.specs.Tree.{Tree, nothing, insert, remove, reached, nodes_read}
use Rattle.model.specs.Build.{build}
use Rattle.model.specs.Tables.{width_of, filed_of, signature_of}
use Rattle.model.specs.Questions.{Asked, width_fits, blocks_fit, Work, Call, clear, file, withdraw, rebuild, search, audit, refusal, Reading, refused, carries}

-- what the ledger has for a block: no pair, or the pair of the block and this signature
pub data Entry : Type 0 where
  unfiled : Entry
  pair : ℕ → Entry

-- The ledger: the width F, which is 0 while no clear has set it, and an entry for each of the blocks 1 to B.
pub record Ledger : Type 0 where
  pub width : ℕ
  pub entries : List Entry

-- the ledger of B blocks with no pair
abbrev pub empty_ledger : ℕ → ℕ → Ledger
empty_ledger B F = record { width = F; entries = replicate B unfiled }

-- the entry of block b
abbrev pub entry_of : List Entry → ℕ → Entry
entry_of entries b = get_or entries (b - 1) unfiled

-- does the block have a pair?
abbrev pub has_pair : Entry → Bool
has_pair unfiled = false
has_pair (pair s) = true

-- the signatures of the pairs, in the order of the blocks
abbrev pub pair_signatures : List Entry → List ℕ
pair_signatures [] = []
pair_signatures (unfiled ∷ es) = pair_signatures es
pair_signatures (pair s ∷ es) = s ∷ pair_signatures es

-- a signature is stored while some pair has it
abbrev pub is_stored : ℕ → Ledger → Bool
is_stored s L = has s (pair_signatures L.entries)

-- the distinct stored signatures
abbrev pub stored : Ledger → List ℕ
stored L = once (pair_signatures L.entries)

-- of the entries of block b and those after it: the blocks that match q, ascending
unfoldable pub matching_from : ℕ → ℕ → ℕ → List Entry → List ℕ
matching_from F q b [] = []
matching_from F q b (unfiled ∷ es) = matching_from F q (suc b) es
matching_from F q b (pair s ∷ es) = elim (coversb F s q) [ true ↦ b ∷ matching_from F q (suc b) es | false ↦ matching_from F q (suc b) es ]

-- a block matches q when its signature covers q
abbrev pub matching : ℕ → Ledger → List ℕ
matching q L = matching_from L.width q 1 L.entries

-- The ledger of tables: their filed blocks with their signatures; n entries from block b on.
unfoldable pub entry_in : List ℕ → List ℕ → ℕ → Entry
entry_in sigs links b = elim (eqb (filed_of links b) 0) [ true ↦ unfiled | false ↦ pair (signature_of sigs b) ]

unfoldable pub entries_from : List ℕ → List ℕ → ℕ → ℕ → List Entry
entries_from sigs links zero b = []
entries_from sigs links (suc n) b = entry_in sigs links b ∷ entries_from sigs links n (suc b)

abbrev pub ledger_of : List ℕ → List ℕ → Ledger
ledger_of sigs links = record { width = width_of links; entries = entries_from sigs links (length sigs) 1 }

-- what the ledger's questions are asked of, with n words lent for signatures: F and B and itself; a filed word is 0 exactly when the
-- block has no pair
abbrev pub asks_ledger : Ledger → ℕ → Asked
asks_ledger L n = record {
  lengths = blocks_fit (length L.entries);
  lent = n;
  words = width_fits L.width;
  width = L.width;
  blocks = length L.entries;
  filed = λ b. has_pair (entry_of L.entries b);
}

-- the ledger's answer: the first no, or 0
abbrev pub answer_of : Ledger → ℕ → Work → Reading → ℕ
answer_of L n W (refused m) = m
answer_of L n W (carries c) = refusal (asks_ledger L n) W c

-- The ledger after a call that no question refuses: clear empties it and sets F, file adds the pair, withdraw takes the block's pair out.
abbrev pub entered : Ledger → Call → Ledger
entered L (clear F) = empty_ledger (length L.entries) F
entered L (file b s) = record { width = L.width; entries = set L.entries (b - 1) (pair (number_in s)) }
entered L (withdraw b) = record { width = L.width; entries = set L.entries (b - 1) unfiled }
entered L rebuild = L
entered L (search q) = L
entered L audit = L

-- Withdrawing a block with this entry, where L is the ledger without the pair: the last pair of a signature takes its leaf away.
abbrev pub lost : Ledger → Entry → Tree → Tree
lost L unfiled t = t
lost L (pair s) t = elim (is_stored s L) [ true ↦ t | false ↦ remove L.width s t ]

-- The plain tree after a call that no question refuses: filing a signature not yet stored puts its leaf in, rebuild makes it anew from the stored signatures.
abbrev pub grown : Ledger → Tree → Call → Tree
grown L t (clear F) = nothing
grown L t (file b s) = elim (is_stored (number_in s) L) [ true ↦ t | false ↦ insert L.width (number_in s) t ]
grown L t (withdraw b) = lost (entered L (withdraw b)) (entry_of L.entries b) t
grown L t rebuild = build L.width (stored L)
grown L t (search q) = t
grown L t audit = t

-- After any call with n words lent for signatures; one that is refused changes nothing.
abbrev pub ledger_after : Ledger → ℕ → Work → Reading → Ledger
ledger_after L n W (refused m) = L
ledger_after L n W (carries c) = elim (eqb (refusal (asks_ledger L n) W c) 0) [ true ↦ entered L c | false ↦ L ]

abbrev pub tree_after : Ledger → Tree → ℕ → Work → Reading → Tree
tree_after L t n W (refused m) = t
tree_after L t n W (carries c) = elim (eqb (refusal (asks_ledger L n) W c) 0) [ true ↦ grown L t c | false ↦ t ]

-- What a call reports: the answer, 0 or the refusal, and the counts found, compares and bits read.
pub record Report : Type 0 where
  pub answer : ℕ
  pub found : ℕ
  pub compares : ℕ
  pub bits : ℕ

-- an answer with all counts 0
abbrev pub bare : ℕ → Report
bare n = record { answer = n; found = 0; compares = 0; bits = 0 }

-- What a call that no question refuses reports: the compares of a search are the distinct stored signatures whose path has no 0
-- edge where the query has a 1, and its bits read the nodes reached.
abbrev pub done_by : Ledger → Tree → Call → Report
done_by L t (clear F) = bare 0
done_by L t (file b s) = bare 0
done_by L t (withdraw b) = bare 0
done_by L t rebuild = bare 0
done_by L t (search q) = record {
  answer = 0;
  found = length (matching (number_in q) L);
  compares = length (reached L.width (number_in q) t (stored L));
  bits = nodes_read L.width (number_in q) t;
}
done_by L t audit = bare 0

-- what any call reports
abbrev pub report_by : Ledger → Tree → ℕ → Work → Reading → Report
report_by L t n W (refused m) = bare m
report_by L t n W (carries c) = elim (eqb (refusal (asks_ledger L n) W c) 0) [ true ↦ done_by L t c | false ↦ bare (refusal (asks_ledger L n) W c) ]
