-- What the list takes of a call that no question refuses: from sound tables words and links to sound tables words' and links', whose
-- ledger and plain tree are the old ones after the call.
-- Assumes nothing.
use Rattle.std.specs.Prelude.{ℕ, ◌≡◌, List}
use Rattle.model.specs.Tree.{Tree}
use Rattle.model.specs.Wide.{number_in}
use Rattle.model.specs.Tables.{signatures_of, tree_of}
use Rattle.model.specs.Sound.{SoundLent}
use Rattle.model.specs.Questions.{asks_tables, Call, search, refusal}
use Rattle.model.specs.Ledger.{Ledger, ledger_of, entered, grown, Report, done_by}
use Rattle.model.specs.Lists.{Memory}
use Rattle.model.specs.Claim.{Searched}

-- the ledger and the plain tree of the tables lent, and the first no that their words give
abbrev pub ledger_in : Memory → Ledger
ledger_in M = ledger_of (signatures_of M.signatures M.links) M.links

abbrev pub tree_in : Memory → Tree
tree_in M = tree_of (signatures_of M.signatures M.links) M.links

abbrev pub refusal_in : Memory → Call → ℕ
refusal_in M c = refusal (asks_tables M.signatures M.links) M.work c

-- the tables move with the ledger and the plain tree
pub record Moves (words links : List ℕ) (c : Call) (words' links' : List ℕ) : Type 0 where
  pub sound : SoundLent words' links'
  pub ledger : ledger_of (signatures_of words' links') links' ≡ entered (ledger_of (signatures_of words links) links) c
  pub tree : tree_of (signatures_of words' links') links' ≡ grown (ledger_of (signatures_of words links) links) (tree_of (signatures_of words links) links) c

-- a call that is carried out on sound tables: it reports by their ledger and their tree
pub record Done (c : Call) (M : Memory) (o : Report) (M' : Memory) : Type 0 where
  pub report : o ≡ done_by (ledger_in M) (tree_in M) c
  pub moves : Moves M.signatures M.links c M'.signatures M'.links
  pub searched : (q : List ℕ) → c ≡ search q → Searched (ledger_in M) (tree_in M) (number_in q) M.work o M'.work
