-- The marks of blocks, and the list of the marked ones, as it grows at the front of an output.
-- Assumes nothing.
use Rattle.std.specs.Prelude.{ℕ, ◌-◌, ◌≤◌, ◌≡◌, Bool, List, ◌++◌, eqb, length, get_or, set, take, drop, replicate}
use Rattle.std.specs.Borrow.{MutBor}
use Rattle.model.specs.Basics.{keep, up_from}

-- two references are one loan: what was lent behind the one comes back from behind the other
abbrev pub SameLoan : {X : Type 0} → MutBor X → MutBor X → Type 0
SameLoan a b = a.ghost_name ≡ b.ghost_name

-- is block b marked?
abbrev pub is_marked : List ℕ → ℕ → Bool
is_marked marks b = eqb (get_or marks (b - 1) 0) 1

-- the marks after block b is marked
abbrev pub mark : List ℕ → ℕ → List ℕ
mark marks b = set marks (b - 1) 1

-- the marked blocks of the first B, ascending
abbrev pub listed : ℕ → List ℕ → List ℕ
listed B m = keep (is_marked m) (up_from B 1)

-- the first B marks 0
abbrev pub cleared : ℕ → List ℕ → List ℕ
cleared B m = replicate B 0 ++ drop B m

-- the first n words of the output are the marked ones of the first b blocks
pub record Lists (marks : List ℕ) (b n : ℕ) (output : List ℕ) : Type 0 where
  pub count : n ≡ length (listed b marks)
  pub front : take n output ≡ listed b marks

-- A part of the listing, where `found` blocks are marked in all: it takes a list of the first `from` blocks, n of them marked, to one
-- of the first `to`, r of them marked, and leaves the words beyond `found`.
pub record ListedPart (marks : List ℕ) (found from n : ℕ) (output : List ℕ) (to r : ℕ) (output' : List ℕ) : Type 0 where
  pub long : length output' ≡ length output
  pub beyond : drop found output' ≡ drop found output
  pub lists : (B : ℕ) → to ≤ B → found ≡ length (listed B marks) → Lists marks from n output → Lists marks to r output'
