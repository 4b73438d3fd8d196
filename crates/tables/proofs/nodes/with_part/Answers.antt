-- `tables::nodes::with_part` meets its contract: a case for each part.
-- Assumes nothing.
use native.Mathlib.Omega.{arith}
use mathlib.Core.Path.{◌∙◌}
use Rattle.model.proofs.Packing.{with_position, with_left, with_right}
use Rattle.tables.proofs.nodes.with_part.Goals as goal
use Rattle.tables.proofs.nodes.with_part.Goals.{in-0, in-1, in_default}

pub returns : goal.returns
returns c =
    let w = c.from-old.ensures in
    elim c.match-part.branch [
      | in-0 i ↦ (rw i.join-is at c.join.ensures) ∙ with_position _ _ _ _ _ i.in-0.is w.1 w.2
      | in-1 i ↦ (rw i.join-is at c.join.ensures) ∙ with_left _ _ _ _ _ i.in-1.is w.0 w.2
      | in_default i ↦ (rw i.join-is at c.join.ensures) ∙ with_right _ _ _ _ _ (omega arith) w.0 w.1
    ]
