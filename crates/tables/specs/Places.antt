-- The place of a reference, as the address of document 01's links at which it stands.
-- Assumes nothing.
use Rattle.std.specs.Prelude.{ℕ, ◌≤◌, ◌<◌}
use Rattle.model.specs.Tables.{root_at, side_at}
use Rattle.tables.specs.declared.place.Place.{Place}
use Rattle.tables.specs.declared.place.Place.TheVariants.{Root, Below}
use Rattle.tables.specs.Sides.{side_number}

abbrev pub address_of : ℕ → Place → ℕ
address_of B Root = root_at
address_of B (Below node side) = side_at B node (side_number side)

-- the place is one of tables of B blocks
abbrev pub IsPlace : ℕ → Place → Type 0
IsPlace B Root = Unit {0}
IsPlace B (Below node side) = (1 ≤ node) × (node < B)
