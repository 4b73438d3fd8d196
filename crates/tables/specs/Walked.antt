-- Where a walk ended, in the addresses of document 01's links.
-- Assumes nothing.
use Rattle.std.specs.Prelude.{ℕ, List, ◌≡◌, ◌≢◌, ◌≤◌, ◌<◌, Option, None, Some, IfSome}
use Rattle.tables.specs.declared.walk.Parent.{Parent}
use Rattle.tables.specs.declared.walk.Walked.{Walked}
use Rattle.tables.specs.Places.{address_of, IsPlace}
use Rattle.tables.specs.Walk.{Ends, HeldBy, below_at}

-- the address of the reference reached, 0 where the walk met an unfit node
abbrev pub link_of : ℕ → Option Walked → ℕ
link_of B None = 0
link_of B (Some w) = address_of B w.place

-- the address of the parent's reference, 0 where there is none
abbrev pub parent_at : ℕ → Option Parent → ℕ
parent_at B None = 0
parent_at B (Some p) = address_of B p.place

abbrev pub above_of : ℕ → Option Walked → ℕ
above_of B None = 0
above_of B (Some w) = parent_at B w.parent

-- the reference reached
abbrev pub reference_of : Option Walked → ℕ
reference_of None = 0
reference_of (Some w) = w.reference

-- the parent's node number
abbrev pub parent_node : Option Parent → ℕ
parent_node None = 0
parent_node (Some p) = p.node

abbrev pub parent_of : Option Walked → ℕ
parent_of None = 0
parent_of (Some w) = parent_node w.parent

-- the parent is a node, and its reference has a place
abbrev pub IsParent : ℕ → Parent → Type 0
IsParent B p = IsPlace B p.place × (1 ≤ p.node) × (p.node < B)

-- the two places are places of tables of B blocks
abbrev pub IsInside : ℕ → Walked → Type 0
IsInside B w = IsPlace B w.place × IfSome w.parent (IsParent B)

-- The walk from the root by s: where it ends, by the addresses; the link is the edge below the parent that s takes; the places are places
-- of the tables; and what stands there.
pub record Walks (B F : ℕ) (links : List ℕ) (s : ℕ) (w : Option Walked) : Type 0 where
  pub ends : Ends B F links s (link_of B w) (above_of B w)
  pub taken : link_of B w ≢ 0 → link_of B w ≡ below_at B F links s (parent_of w)
  pub inside : IfSome w (IsInside B)
  pub held : HeldBy B links (link_of B w) (above_of B w) (reference_of w) (parent_of w)
