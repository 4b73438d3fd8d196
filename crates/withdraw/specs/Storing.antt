-- What a withdrawal's stores ask of the lent tables.
-- Assumes nothing.
use Rattle.std.specs.Prelude.{ℕ, ◌≤◌}
use Rattle.model.specs.Tables.{count_of}
use Rattle.tables.specs.declared.lent.TablesMut.{TablesMut}
use Rattle.tables.specs.Changed.{links_in, blocks_in, PacksIn}

-- the slices are as long as they should be, b is no block beyond theirs, and one less can be counted
abbrev pub CanWithdraw : TablesMut → ℕ → Type 0
CanWithdraw t b = PacksIn t × (b ≤ blocks_in t) × (1 ≤ count_of (links_in t))
