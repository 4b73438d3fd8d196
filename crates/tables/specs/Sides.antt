-- A node's sides in document 01's numbers.
-- Assumes nothing.
use Rattle.std.specs.Prelude.{ℕ, Option, None, Some}
use Rattle.tables.specs.declared.side.Side.{Side}
use Rattle.tables.specs.declared.side.Side.TheVariants.{Left, Right}

-- the left edge means bit 0, the right edge bit 1
abbrev pub side_number : Side → ℕ
side_number Left = 0
side_number Right = 1

-- the same, and 2 for no side
abbrev pub edge_number : Option Side → ℕ
edge_number None = 2
edge_number (Some side) = side_number side
