-- `tables::rows::clear_signature` meets its contract: so many of the words are 0.
-- Assumes nothing.
use mathlib.Core.Path.{◌≡◌}
use lib.ListN.{replicate}
use lib.Seq.{paste}
use Rattle.tables.proofs.rows.clear_signature.Given as goal

abbrev pub invariant-loop-i : goal.invariant-loop-i
invariant-loop-i l = l.signatures ≡ paste l.fn.signatures l.from (replicate l.words 0) l.i
