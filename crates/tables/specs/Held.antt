-- What lent tables hold, as clauses write it.
-- Assumes nothing.
use Rattle.std.specs.Prelude.{ℕ, List, length}
use Rattle.model.specs.Packed.{unpacked}
use Rattle.tables.specs.declared.packed.Tables.{Tables}
use Rattle.tables.specs.Rows.{numbers}

-- the numbers of the blocks' signatures
abbrev pub signatures_held : Tables → List ℕ
signatures_held t = numbers t.rows

-- how many blocks the tables have
abbrev pub blocks_held : Tables → ℕ
blocks_held t = length (signatures_held t)

-- the links that they hold
abbrev pub held : Tables → List ℕ
held t = unpacked t.rows.links.now t.nodes.now
