-- Lists of calls (document 01, "The calls"; Ticket 9): what is lent, what a call gives by the promise of the function that carries it
-- out, and a run of calls, each on the tables as the last one left them; a clear may be lent another signature slice.
-- Assumes nothing.
use Rattle.std.specs.Prelude.{ℕ, ◌≡◌, true, false, List, [], ◌∷◌, eqb}
use Rattle.model.specs.Questions.{Asked, asks_tables, Work, Call, clear, file, withdraw, rebuild, search, audit, Reading, refused, carries, read_slip}
use Rattle.model.specs.Ledger.{Report, bare}
use Rattle.model.specs.Promises.{ClearPromise, FilePromise, WithdrawPromise, RebuildPromise, AuditPromise, SearchPromise}

-- All that is lent with a call: the two tables, and the slices to work in. Where a direct call borrows fewer, the rest is out of its reach.
pub record Memory : Type 0 where
  pub signatures : List ℕ
  pub links : List ℕ
  pub work : Work

-- Only the tables were touched, and no count is reported: what a clear, file or withdraw leaves besides its promise.
pub record TablesOnly (M : Memory) (o : Report) (M' : Memory) : Type 0 where
  pub counts : o ≡ bare o.answer
  pub work : M'.work ≡ M.work

-- Only the links and the scratch were touched.
pub record LinksOnly (M : Memory) (o : Report) (M' : Memory) : Type 0 where
  pub counts : o ≡ bare o.answer
  pub signatures : M'.signatures ≡ M.signatures
  pub marks : M'.work.marks ≡ M.work.marks
  pub output : M'.work.output ≡ M.work.output

-- Only the marks and the output were touched.
pub record WorkOnly (M M' : Memory) : Type 0 where
  pub signatures : M'.signatures ≡ M.signatures
  pub links : M'.links ≡ M.links
  pub scratch : M'.work.scratch ≡ M.work.scratch

-- What a call gives: the report o and the memory M', from the memory M.
abbrev pub Gives : Call → Memory → Report → Memory → Type 0
Gives (clear F) M o M' = ClearPromise M.signatures M.links F o.answer M'.signatures M'.links × TablesOnly M o M'
Gives (file b s) M o M' = FilePromise M.signatures M.links b s o.answer M'.signatures M'.links × TablesOnly M o M'
Gives (withdraw b) M o M' = WithdrawPromise M.signatures M.links b o.answer M'.signatures M'.links × TablesOnly M o M'
Gives rebuild M o M' = RebuildPromise M.signatures M.links M.work.scratch o.answer M'.links M'.work.scratch × LinksOnly M o M'
Gives (search q) M o M' =
    SearchPromise M.signatures M.links q M.work.marks M.work.output o M'.work.marks M'.work.output × WorkOnly M M'
Gives audit M o M' = AuditPromise M.signatures M.links o.answer × (o ≡ bare o.answer) × (M' ≡ M)

-- The same where questions 1 to 3 were asked first: a no of theirs changes nothing.
abbrev pub GivesReading : Reading → Memory → Report → Memory → Type 0
GivesReading (refused n) M o M' = (o ≡ bare n) × (M' ≡ M)
GivesReading (carries c) M o M' = Gives c M o M'

-- A call comes directly, or as a slip.
pub data Request : Type 0 where
  direct : Call → Request
  slip : List ℕ → Request

unfoldable pub reading : Asked → Request → Reading
reading A (direct c) = carries c
reading A (slip bytes) = read_slip A bytes

-- The signature slice lent with a call: the index's own, or another, of any length and content.
pub data Slice : Type 0 where
  own : Slice
  another : List ℕ → Slice

abbrev pub lent_slice : List ℕ → Slice → List ℕ
lent_slice words own = words
lent_slice words (another ws) = ws

-- only a clear is carried out on another
abbrev pub MayLend : Slice → Reading → Type 0
MayLend own r = Unit {0}
MayLend (another ws) (refused n) = Unit {0}
MayLend (another ws) (carries c) = (F : ℕ) × (c ≡ clear F)

-- the index's slice after a call that left words' in the slice lent: that one, or the old one where the call was refused
abbrev pub slice_after : List ℕ → Slice → ℕ → List ℕ → List ℕ
slice_after words own answer words' = words'
slice_after words (another ws) answer words' = elim (eqb answer 0) [ true ↦ words' | false ↦ words ]

-- One call of a list: the request, the signature slice and the slices to work in that it was lent, what it reported, and the memory
-- that it left.
pub record Step : Type 0 where
  pub request : Request
  pub slice : Slice
  pub lent : Work
  pub report : Report
  pub left : Memory

-- the memory lent with a step, where the index has these tables
abbrev pub lent_to : List ℕ → List ℕ → Step → Memory
lent_to words links s = record { signatures = lent_slice words s.slice; links = links; work = s.lent }

-- the index's signature slice after a step
abbrev pub words_after : List ℕ → Step → List ℕ
words_after words s = slice_after words s.slice s.report.answer s.left.signatures

-- what the step's request comes to, asked of the tables that are lent
abbrev pub reading_on : List ℕ → List ℕ → Step → Reading
reading_on words links s = reading (asks_tables (lent_slice words s.slice) links) s.request

-- A run of steps from these tables.
abbrev pub Run : List ℕ → List ℕ → List Step → Type 0
Run words links [] = Unit {0}
Run words links (s ∷ ss) =
    GivesReading (reading_on words links s) (lent_to words links s) s.report s.left
    × MayLend s.slice (reading_on words links s)
    × Run (words_after words s) s.left.links ss
