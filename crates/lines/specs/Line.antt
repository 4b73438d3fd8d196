-- The text of a line by its fields.
-- Assumes nothing.
use Rattle.std.specs.Prelude.{ℕ, List, ◌∷◌}
use Rattle.lines.specs.Text.{line_text}
use Rattle.lines.specs.declared.Line.{Line}

-- kind, answer, blocks found, compares, bits read, and the blocks that are listed
abbrev pub text_of : Line → List ℕ
text_of l = line_text l.kind (l.report.answer ∷ l.report.counts.found ∷ l.report.counts.compares ∷ l.report.counts.bits ∷ l.blocks.now)
