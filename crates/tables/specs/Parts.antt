-- The parts of a node, and which of them a word holds.
-- Assumes nothing.
use Rattle.std.specs.Prelude.{ℕ, ◌^◌, ◌<◌, ◌≡◌}
use Rattle.model.specs.Packed.{position_in, left_in, right_in}
use Rattle.tables.specs.declared.nodes.Parts.{Parts}
use Rattle.tables.specs.declared.side.Side.{Side}
use Rattle.tables.specs.declared.side.Side.TheVariants.{Left, Right}

-- these are the parts of the word
abbrev pub IsParts : ℕ → Parts → Type 0
IsParts word parts = (parts.position ≡ position_in word) × (parts.left ≡ left_in word) × (parts.right ≡ right_in word)

-- a word has room for them
abbrev pub FitsWord : Parts → Type 0
FitsWord parts = (parts.position < 2 ^ 30) × (parts.left < 2 ^ 17) × (parts.right < 2 ^ 17)

-- a node that tests position p, with x on the side and y on the other
abbrev pub by_side : ℕ → Side → ℕ → ℕ → Parts
by_side p Left x y = record { position = p; left = x; right = y }
by_side p Right x y = record { position = p; left = y; right = x }

-- a free node that leads to node i
abbrev pub leading_to : ℕ → Parts
leading_to i = record { position = 0; left = i; right = 0 }
