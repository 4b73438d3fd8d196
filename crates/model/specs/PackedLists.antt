-- Lists of calls on packed tables: what is lent, what a call gives, and a run of calls, each on the tables as the last one left them.
-- Assumes nothing.
use Rattle.std.specs.Prelude.{ℕ, ◌≡◌, true, false, List, [], ◌∷◌}
use Rattle.model.specs.Packed.{unpacked}
use Rattle.model.specs.Questions.{Work, Call, Reading, refused, carries, read_slip}
use Rattle.model.specs.Ledger.{Report, bare}
use Rattle.model.specs.Lists.{Memory, GivesReading, Request, reading, Slice, lent_slice, MayLend, slice_after, Step}
use Rattle.model.specs.PackedPromises.{packed_fit, asks_packed, Stays}

-- all that is lent with a call of packed tables
pub record PackedMemory : Type 0 where
  pub signatures : List ℕ
  pub links : List ℕ
  pub nodes : List ℕ
  pub work : Work

-- the memory whose tables they hold
abbrev pub held : PackedMemory → Memory
held M = record { signatures = M.signatures; links = unpacked M.links M.nodes; work = M.work }

-- What a call gives: by what it gives on the memory held.
pub record PackedGives (r : Reading) (M : PackedMemory) (o : Report) (M' : PackedMemory) : Type 0 where
  -- a slip that its own questions refuse changes nothing, whatever the lengths
  pub unread : (n : ℕ) → r ≡ refused n → (o ≡ bare n) × (M' ≡ M)
  pub unfit : (c : Call) → r ≡ carries c → packed_fit M.links M.nodes ≡ false → (o ≡ bare 4) × (M' ≡ M)
  pub asked : packed_fit M.links M.nodes ≡ true → GivesReading r (held M) o (held M') × Stays o.answer M.links M.nodes M'.links M'.nodes

-- The slip reader's promise: any bytes of any length.
abbrev pub PackedSlip : List ℕ → PackedMemory → Report → PackedMemory → Type 0
PackedSlip bytes M = PackedGives (read_slip (asks_packed M.signatures M.links M.nodes) bytes) M

-- One call of a list.
pub record PackedStep : Type 0 where
  pub request : Request
  pub slice : Slice
  pub lent : Work
  pub report : Report
  pub left : PackedMemory

-- the same call as one of the tables held, and a list of such
abbrev pub held_step : PackedStep → Step
held_step u = record { request = u.request; slice = u.slice; lent = u.lent; report = u.report; left = held u.left }

abbrev pub held_steps : List PackedStep → List Step
held_steps [] = []
held_steps (u ∷ us) = held_step u ∷ held_steps us

-- the memory lent with a step, where the index has these tables
abbrev pub packed_lent : List ℕ → List ℕ → List ℕ → PackedStep → PackedMemory
packed_lent words links nodes u = record { signatures = lent_slice words u.slice; links = links; nodes = nodes; work = u.lent }

-- the index's signature slice after a step
abbrev pub packed_after : List ℕ → PackedStep → List ℕ
packed_after words u = slice_after words u.slice u.report.answer u.left.signatures

-- what the step's request comes to, asked of the tables that are lent
abbrev pub packed_reading : List ℕ → List ℕ → List ℕ → PackedStep → Reading
packed_reading words links nodes u = reading (asks_packed (lent_slice words u.slice) links nodes) u.request

-- A run of them.
abbrev pub PackedRun : List ℕ → List ℕ → List ℕ → List PackedStep → Type 0
PackedRun words links nodes [] = Unit {0}
PackedRun words links nodes (u ∷ us) =
    PackedGives (packed_reading words links nodes u) (packed_lent words links nodes u) u.report u.left
    × MayLend u.slice (packed_reading words links nodes u)
    × PackedRun (packed_after words u) u.left.links u.left.nodes us
