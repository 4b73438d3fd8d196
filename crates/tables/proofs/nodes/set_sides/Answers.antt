-- `tables::nodes::set_sides` meets its contract.
-- Assumes nothing.
use Prim.Native.Nat.{ℕ, ◌-◌}
use mathlib.Core.Path.{◌∙◌, ap}
use lib.ListN.{set}
use Rattle.tables.proofs.Sided.{by_side_word, by_number}
use Rattle.tables.proofs.nodes.set_sides.Goals as goal

pub returns : goal.returns
returns c =
    let s = c.args in
    c.set_node.ensures ∙ ap (λ (v : ℕ). set s.nodes.now (s.node - 1) v) (by_side_word _ _ _ _ _ c.by_side.ensures ∙ by_number _ _ _ _ _ c.from-side.ensures)
