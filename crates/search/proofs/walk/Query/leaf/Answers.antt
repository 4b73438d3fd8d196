-- `search::walk::Query::leaf` meets its contract: at each return the tests that led there say which case of `leaf_twin` holds.
-- Assumes nothing.
use mathlib.Core.Path.{sym, ◌∙◌}
use native.Mathlib.Omega.{arith}
use Rattle.search.proofs.Steps.{leaf_passed, leaf_chain}
use Rattle.search.proofs.walk.Query.leaf.Goals as goal

pub returns-then-not-is_covered-clause-gives : goal.returns-then-not-is_covered-clause-gives
returns-then-not-is_covered-clause-gives g c =
    let p = c.requires in
    sym (leaf_passed _ _ _ _ _ _ (omega (arith, p.le_head.0)) (sym c.is_covered.ensures ∙ c.if-not-is_covered.true))

pub mark_leaf-requires-clause-le_head : goal.mark_leaf-requires-clause-le_head
mark_leaf-requires-clause-le_head g c =
    let p = c.requires in
    (p.le_head.0, p.le_head.1, sym c.is_covered.ensures ∙ c.if-not-is_covered.false)

pub returns-clause-gives : goal.returns-clause-gives
returns-clause-gives g c =
    let p = c.requires in
    c.mark_leaf.ensures.gives ∙ sym (leaf_chain _ _ _ _ _ _ (omega (arith, p.le_head.0)) (sym c.is_covered.ensures ∙ c.if-not-is_covered.false))
