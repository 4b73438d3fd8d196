-- The signatures of lent tables, as clauses write them.
-- Assumes nothing.
use Rattle.std.specs.Prelude.{ℕ, List}
use Rattle.model.specs.Wide.{signatures_in}
use Rattle.tables.specs.declared.rows.Rows.{Rows}

-- the numbers of the blocks' signatures
abbrev pub numbers : Rows → List ℕ
numbers r = signatures_in r.words r.blocks r.signatures.now
