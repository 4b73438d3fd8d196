-- What a filing's stores ask of the lent tables.
-- Assumes nothing.
use Rattle.std.specs.Prelude.{ℕ, ◌≤◌, ◌<◌}
use Rattle.model.specs.Limits.{most_blocks}
use Rattle.model.specs.Tables.{count_of}
use Rattle.tables.specs.declared.lent.TablesMut.{TablesMut}
use Rattle.tables.specs.Changed.{links_in, blocks_in, PacksIn}

-- the slices are as long as they should be, b is one of their blocks, and one more can be counted
abbrev pub CanFile : TablesMut → ℕ → Type 0
CanFile t b = PacksIn t × (1 ≤ b) × (b ≤ blocks_in t) × (count_of (links_in t) < most_blocks)
