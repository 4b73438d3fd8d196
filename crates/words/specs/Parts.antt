-- The bytes from a start up to an end, as a part of a text, and the part that a caller is told where the splitter gives a place.
-- Assumes nothing.
use Rattle.std.specs.Prelude.{ℕ, ◌-◌, List, length, Result, Ok, Err}
use Rattle.std.specs.declared.ops.Range.{Range}
use Rattle.answers.specs.declared.refusal.Refusal.{Refusal}
use Rattle.model.specs.Words.{Part}

abbrev pub part_of : ℕ → ℕ → Part
part_of start end = record { start = start; size = end - start }

-- where the told part starts: at the text's end where the text is refused
abbrev pub start_in : List ℕ → Result (Range ℕ) Refusal → ℕ
start_in text (Ok place) = place.start
start_in text (Err refusal) = length text

-- its size: 0 where the text is refused
abbrev pub size_in : Result (Range ℕ) Refusal → ℕ
size_in (Ok place) = place.end - place.start
size_in (Err refusal) = 0
