-- `tables::nodes::side_in` meets its contract: a part for each side.
-- Assumes nothing.
use native.Mathlib.Omega.{arith}
use mathlib.Core.Path.{sym, ◌∙◌}
use Rattle.model.proofs.Packing.{part_left, part_right}
use Rattle.tables.proofs.nodes.side_in.Goals as goal

pub returns-in-Left : goal.returns-in-Left
returns-in-Left c = rw c.in-Left.is (c.left_in.ensures ∙ sym (part_left c.args.word 1 (omega arith)))

pub returns-in-Right : goal.returns-in-Right
returns-in-Right c = rw c.in-Right.is (c.right_in.ensures ∙ sym (part_right c.args.word 2 (omega arith)))
