-- What a search may still do, and the same as one number.
-- Assumes nothing.
use Rattle.std.specs.Prelude.{ℕ, ◌+◌, ◌-◌, ◌*◌, ◌/◌, ◌%◌, ◌≤◌, ◌≡◌}
use Rattle.std.proofs.Common.{ap, arith}
use native.Mathlib.Nat.{div-div-eq-div-mul}

-- What a search may still do: read nodes, go both ways at them, and mark blocks. Going both ways is one compare more: a search that
-- forks n times compares n + 1 leaves. Nothing at all: the tables are unfit.
pub record Budget : Type 0 where
  pub nodes : ℕ
  pub forks : ℕ
  pub blocks : ℕ

abbrev pub unfit : Budget
unfit = record { nodes = 0; forks = 0; blocks = 0 }

-- what a search of B blocks is lent: B - 1 nodes, a fork more than those, so that one is always left, and B blocks
abbrev pub lent : ℕ → Budget
lent B = record { nodes = B - 1; forks = B; blocks = B }

-- a node less, where the query goes right only; a node and a fork less, where it goes both ways
abbrev pub node_less : Budget → Budget
node_less l = record { nodes = l.nodes - 1; forks = l.forks; blocks = l.blocks }

abbrev pub fork_less : Budget → Budget
fork_less l = record { nodes = l.nodes - 1; forks = l.forks - 1; blocks = l.blocks }

-- a block less
abbrev pub block_less : Budget → Budget
block_less l = record { nodes = l.nodes; forks = l.forks; blocks = l.blocks - 1 }

-- every node that may be read may be a fork
abbrev pub Forking : Budget → Type 0
Forking l = l.nodes ≤ l.forks

-- a budget as one number: 32 bits for the nodes, 16 each for the forks and the blocks
abbrev pub budget_of : ℕ → Budget
budget_of s = record { nodes = s % 4294967296; forks = s / 4294967296 % 65536; blocks = s / 281474976710656 }

-- and the number of a budget, which gives back the one that it was read from
abbrev pub number_of : Budget → ℕ
number_of l = l.nodes + 4294967296 * (l.forks + 65536 * l.blocks)

pub number_same : (s : ℕ) → number_of (budget_of s) ≡ s
number_same s = let b : s / 4294967296 / 65536 ≡ s / 281474976710656 = div-div-eq-div-mul s 4294967296 65536 in omega arith

pub number_back : {A : Type 0} → (s : ℕ) → (f : ℕ → A) → f (number_of (budget_of s)) ≡ f s
number_back s f = ap f (number_same s)
