-- `search::walk::Query::mark_leaf` meets its contract: the head may be marked where it is filed and unmarked, since it covers the query, and
-- then the chain goes on after it.
-- Assumes nothing.
use mathlib.Core.Path.{sym, ◌∙◌}
use native.Mathlib.Omega.{arith}
use Rattle.search.proofs.Steps.{chain_spent}
use Rattle.search.proofs.Returns.{head_unfiled, head_marked, head_goes}
use Rattle.search.proofs.walk.Query.mark_leaf.Goals as goal
use Rattle.search.proofs.walk.Query.mark_leaf.Goals.{then-blocks-eq0-via-then-blocks-eq0, then-blocks-eq0-via-else-blocks-eq0+then-filed_of-eq0, then-blocks-eq0-via-else-blocks-eq0+else-filed_of-eq0+then-is_marked}

pub returns-then-blocks-eq0-clause-gives : goal.returns-then-blocks-eq0-clause-gives
returns-then-blocks-eq0-clause-gives g c =
    let p = c.requires.le_head in
    rw c.unfit.ensures (sym (elim c.then-blocks-eq0.branch [
      | then-blocks-eq0-via-then-blocks-eq0 w ↦ chain_spent _ _ _ _ _ _ _ _ (omega (arith, p.0)) (sym c.blocks-2.ensures ∙ w.if-blocks-eq0.true)
      | then-blocks-eq0-via-else-blocks-eq0+then-filed_of-eq0 w ↦ head_unfiled _ _ _ _ _ _ _ _ p.0 p.1 (sym w.filed_of.ensures ∙ w.if-filed_of-eq0.true)
      | then-blocks-eq0-via-else-blocks-eq0+else-filed_of-eq0+then-is_marked w ↦ head_marked _ _ _ _ _ _ _ _ p.0 p.1 (λ z. w.if-filed_of-eq0.false (w.filed_of.ensures ∙ z)) (sym w.is_marked.ensures ∙ w.if-is_marked.true)
    ]))

pub returns-clause-gives : goal.returns-clause-gives
returns-clause-gives g c =
    let p = c.requires.le_head in
    c.mark_chain.ensures.gives ∙ sym (head_goes _ _ _ _ _ _ _ _ p.0 p.1 (λ z. c.if-filed_of-eq0.false (c.filed_of.ensures ∙ z)) (sym c.is_marked.ensures ∙ c.if-is_marked.false) p.2 (omega (arith, c.if-blocks-eq0.false, c.blocks-2.ensures)) _ c.take_block.ensures _ c.next_of-next.ensures _ c.mark.ensures.marked)
