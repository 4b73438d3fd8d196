-- `lines::numbers` meets its contract. The invariant: the numbers so far are put, each in at most 11 bytes.
-- Assumes nothing.
use Rattle.std.proofs.Common.{◌+◌, ◌*◌, ◌≤◌, take}
use Rattle.lines.specs.Text.{spaced, Puts}
use Rattle.lines.proofs.numbers.Given as goal

abbrev pub invariant-loop-n : goal.invariant-loop-n
invariant-loop-n l = Puts l.initial.text l.at (spaced (take l.n-index l.list)) l.next l.text × (l.next ≤ l.at + 11 * l.n-index)
