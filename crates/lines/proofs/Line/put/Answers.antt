-- `lines::Line::put` meets its contract. The kind, the report's numbers, the blocks and the line feed, one after the other.
-- Assumes nothing.
use Rattle.lines.proofs.Laws.{puts_line}
use Rattle.lines.proofs.Line.put.Goals as goal

pub returns-clause-puts : goal.returns-clause-puts
returns-clause-puts c =
    rw (← c.from.ensures) (puts_line _ _ _ _ _ _ _ _ _ _ _ _ _ c.digits-first.ensures c.numbers-counted.ensures.puts c.numbers-listed.ensures.puts c.push.ensures)
