-- `search::walk::Query::mark_chain` meets its contract. The invariant: the rest of the chain gives what the whole chain gives.
-- Assumes nothing.
use mathlib.Core.Path.{sym, ◌∙◌}
use native.Mathlib.Omega.{arith}
use Rattle.search.proofs.Marks.{may_matches}
use Rattle.search.proofs.Steps.{chain_end, chain_spent, chain_stop}
use Rattle.search.proofs.Returns.{marked_long, chain_goes}
use Rattle.search.proofs.walk.Query.mark_chain.Goals as goal
use Rattle.search.proofs.walk.Query.mark_chain.Goals.{then-blocks-eq0-via-then-blocks-eq0, then-blocks-eq0-via-else-blocks-eq0+then-not-may_mark}

pub returns-then-blocks-eq0-clause-gives : goal.returns-then-blocks-eq0-clause-gives
returns-then-blocks-eq0-clause-gives g c = rw c.unfit.ensures (sym (c.loop-block.invariant.same ∙ elim c.then-blocks-eq0.branch [
  | then-blocks-eq0-via-then-blocks-eq0 w ↦ chain_spent _ _ _ _ _ _ _ _ c.loop-block-test.true (sym c.blocks-in-loop-block.ensures ∙ w.if-blocks-eq0.true)
  | then-blocks-eq0-via-else-blocks-eq0+then-not-may_mark w ↦ chain_stop _ _ _ _ _ _ _ _ c.loop-block-test.true (sym w.may_mark.ensures ∙ w.if-not-may_mark.true)
]))

pub next_of-next-requires : goal.next_of-next-requires
next_of-next-requires g c =
    let p = (may_matches _ _ _ _ _ (sym c.may_mark.ensures ∙ c.if-not-may_mark.false)).1 in (p.from, p.to)

pub mark-requires : goal.mark-requires
mark-requires g c =
    let p = (may_matches _ _ _ _ _ (sym c.may_mark.ensures ∙ c.if-not-may_mark.false)).1 in (p.from, omega (arith, p.to, c.requires, c.loop-block.invariant.long))

pub loop-block-preserved : goal.loop-block-preserved
loop-block-preserved g c =
    let l = c.loop-block in
    let may = sym c.may_mark.ensures ∙ c.if-not-may_mark.false in
    record {
      loan = c.mark.ensures.loan ∙ l.invariant.loan;
      long = marked_long l.marks.bytes.now _ l.block c.mark.ensures.marked ∙ l.invariant.long;
      same = l.invariant.same ∙ chain_goes _ _ _ _ _ _ _ _ _ c.take_block-rest.ensures _ c.next_of-next.ensures _ c.mark.ensures.marked c.loop-block-test.true (omega (arith, c.if-blocks-eq0.false, c.blocks-in-loop-block.ensures)) may;
    }

pub returns-clause-gives : goal.returns-clause-gives
returns-clause-gives g c = sym (c.loop-block.invariant.same ∙ chain_end _ _ _ _ _ _ _ _ c.loop-block-test.false)
