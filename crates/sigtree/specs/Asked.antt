-- What is told of lent tables to the reader of slips.
-- Assumes nothing.
use Rattle.std.specs.Prelude.{ℕ, ◌≡◌, true, false, Option, None, Some, ◌≤◌}
use Rattle.model.specs.Limits.{widest}
use Rattle.model.specs.Wide.{word_count}
use Rattle.model.specs.Questions.{Asked, tables_fit}
use Rattle.model.specs.PackedPromises.{asks_packed}
use Rattle.tables.specs.declared.lent.TablesMut.{TablesMut}

-- what the tables say
abbrev pub asked_of : TablesMut → Asked
asked_of t = asks_packed t.signatures.now t.links.now t.nodes.now

-- W, where they fit
abbrev pub FieldWords : Asked → Option ℕ → Type 0
FieldWords A None = tables_fit A ≡ false
FieldWords A (Some words) = (tables_fit A ≡ true) × (words ≡ word_count A.width) × (words ≤ word_count widest)
