-- Ticket 14: same store, same quote. Once an index is rebuilt, what a search compares and reads depends on the query, the width and the
-- set of stored signatures alone: not on how the tree had grown, nor on which blocks have the signatures, nor on how many blocks there are.
-- Assumes nothing: this is the statement, and its proof stands elsewhere.
use Rattle.std.specs.Prelude.{ℕ, ◌≤◌, ◌≡◌, true, List, [], ◌∷◌, ◌++◌, take}
use Rattle.model.specs.Wide.{number_in}
use Rattle.model.specs.Tree.{Tree}
use Rattle.model.specs.Packed.{unpacked}
use Rattle.model.specs.Questions.{Call, rebuild, search, carries}
use Rattle.model.specs.Ledger.{Ledger, is_stored, entry_of, ledger_after}
use Rattle.model.specs.Lists.{Step, words_after, Run}
use Rattle.model.specs.Claim.{Begins, lent_with, reading_by}
use Rattle.model.specs.PackedPromises.{packed_fit}
use Rattle.model.specs.PackedLists.{PackedStep, held_steps, PackedRun}

-- A list of calls that was run, from tables that hold the ledger L and the plain tree t: sound ones, or ones never cleared, in either form.
-- The steps of packed tables are told as steps of the tables that they hold.
pub data Ran (L : Ledger) (t : Tree) (words : List ℕ) : List Step → Type 0 where
  run : (links : List ℕ) → Begins words links L t → (ss : List Step) → Run words links ss → Ran L t words ss
  packed_run : (links nodes : List ℕ) → packed_fit links nodes ≡ true → Begins words (unpacked links nodes) L t
      → (us : List PackedStep) → PackedRun words links nodes us → Ran L t words (held_steps us)

-- the ledger after a list of calls, and the index's signature slice
abbrev pub ledger_end : Ledger → List ℕ → List Step → Ledger
ledger_end L words [] = L
ledger_end L words (s ∷ ss) = ledger_end (ledger_after L (lent_with words s) s.lent (reading_by L words s)) (words_after words s) ss

abbrev pub words_end : List ℕ → List Step → List ℕ
words_end words [] = words
words_end words (s ∷ ss) = words_end (words_after words s) ss

-- the step after these asks for this call, directly or by a slip, and it is carried out
pub record Accepted (c : Call) (L : Ledger) (words : List ℕ) (before : List Step) (s : Step) : Type 0 where
  pub asks : reading_by (ledger_end L words before) (words_end words before) s ≡ carries c
  pub zero : s.report.answer ≡ 0

-- calls that leave the tables as they are: other searches, audits, whatever is refused
abbrev pub Still : List ℕ → List ℕ → List Step → Type 0
Still words links [] = Unit {0}
Still words links (s ∷ ss) = (words_after words s ≡ words) × (s.left.links ≡ links) × Still words links ss

-- An index that is rebuilt and then asked: any calls, a rebuild that is carried out, calls that leave the tables as they are, and a search
-- for q that is not refused. The slices lent to work in may be any.
pub record Quoted (q : ℕ) : Type 0 where
  -- at the start
  pub ledger : Ledger
  pub tree : Tree
  pub words : List ℕ
  -- the steps in their order, and what they have to be
  pub calls : List Step
  pub rebuilt : Step
  pub between : List Step
  pub searched : Step
  -- the query's words
  pub query : List ℕ
  pub asked : number_in query ≡ q
  pub ran : Ran ledger tree words (calls ++ (rebuilt ∷ (between ++ (searched ∷ []))))
  pub rebuilds : Accepted rebuild ledger words calls rebuilt
  pub still : Still (words_after (words_end words calls) rebuilt) rebuilt.left.links between
  pub searches : Accepted (search query) ledger words (calls ++ (rebuilt ∷ between)) searched

-- the ledger that the calls before the rebuild end in
abbrev pub ends_in : {q : ℕ} → Quoted q → Ledger
ends_in I = ledger_end I.ledger I.words I.calls

-- two ledgers of the same width
abbrev pub SameWidth : Ledger → Ledger → Type 0
SameWidth L L' = L.width ≡ L'.width

-- with the same set of stored signatures
abbrev pub SameSet : Ledger → Ledger → Type 0
SameSet L L' = (s : ℕ) → is_stored s L ≡ is_stored s L'

-- with the same pairs: each block has the same one in both, or none in either; a block that one of them does not have has none there
abbrev pub SamePairs : Ledger → Ledger → Type 0
SamePairs L L' = (b : ℕ) → 1 ≤ b → entry_of L.entries b ≡ entry_of L'.entries b

-- equal compares and equal bits read
pub record SameCounts (s s' : Step) : Type 0 where
  pub compares : s.report.compares ≡ s'.report.compares
  pub bits : s.report.bits ≡ s'.report.bits

-- the blocks that a search lists: the first `found` words of its output
abbrev pub listed : Step → List ℕ
listed s = take s.report.found s.left.work.output

-- equal reports and equal lists of blocks
pub record SameAnswers (s s' : Step) : Type 0 where
  pub report : s.report ≡ s'.report
  pub blocks : listed s ≡ listed s'

-- Ticket 14: at one width, the same set gives the same counts, and the same pairs give the same list, too.
pub record SameQuote : Type 0 where
  pub same_set : (q : ℕ) (I J : Quoted q) → SameWidth (ends_in I) (ends_in J) → SameSet (ends_in I) (ends_in J) → SameCounts I.searched J.searched
  pub same_pairs : (q : ℕ) (I J : Quoted q) → SameWidth (ends_in I) (ends_in J) → SamePairs (ends_in I) (ends_in J) → SameAnswers I.searched J.searched
