-- `withdraw::plan::plan_block` meets its contract: on sound tables the walk by the block's own signature ends at its chain, so no test
-- for unfit tables refuses, and the head's test is the definition's.
-- Assumes nothing.
use native.Mathlib.Omega.{arith}
use mathlib.Core.Path.{sym, ◌∙◌}
use Rattle.tables.proofs.Held.{front, next}
use Rattle.withdraw.proofs.Plans.{some_filed, free_small, next_small, walk_lost, some_place, plans_head, plans_chain}
use Rattle.withdraw.proofs.plan.plan_block.Goals as goal
use Rattle.withdraw.proofs.plan.plan_block.Goals.{then-first_free-ge-TOO_LARGE-via-then-first_free-ge-TOO_LARGE, then-first_free-ge-TOO_LARGE-via-else-first_free-ge-TOO_LARGE+then-next_of-ge-TOO_LARGE}

pub returns-then-count-eq0-clause-right : goal.returns-then-count-eq0-clause-right
returns-then-count-eq0-clause-right c = some_filed _ _ _ c.requires (sym (front c.args.tables.now 4 (omega arith)) ∙ sym c.count.ensures ∙ c.if-count-eq0.true)

pub returns-then-first_free-ge-TOO_LARGE-clause-right : goal.returns-then-first_free-ge-TOO_LARGE-clause-right
returns-then-first_free-ge-TOO_LARGE-clause-right c =
    let t = c.args.tables.now in elim c.then-first_free-ge-TOO_LARGE.branch [
      | then-first_free-ge-TOO_LARGE-via-then-first_free-ge-TOO_LARGE w ↦ free_small _ _ _ c.requires (omega (arith, c.first_free.ensures, front t 3 (omega arith), w.if-first_free-ge-TOO_LARGE.true))
      | then-first_free-ge-TOO_LARGE-via-else-first_free-ge-TOO_LARGE+then-next_of-ge-TOO_LARGE w ↦ next_small _ _ _ c.requires (omega (arith, w.next_of.ensures, next t _ c.requires.to, w.if-next_of-ge-TOO_LARGE.true))
    ]

pub returns-in_err-walked-clause-right : goal.returns-in_err-walked-clause-right
returns-in_err-walked-clause-right c = rw c.from_residual.ensures (walk_lost _ _ _ c.requires _ _ c.signature_of-signature.ensures.number (front c.args.tables.now 0 (omega arith)) _ c.in_err-walked.ensures.ends)

pub plan_head-requires-clause-fits : goal.plan_head-requires-clause-fits
plan_head-requires-clause-fits c =
    let t = c.args.tables.now in
    let n = c.if-count-eq0.false in
    (omega (arith, c.count.ensures, front t 4 (omega arith)), omega (arith, c.first_free.ensures, front t 3 (omega arith), c.if-first_free-ge-TOO_LARGE.false), omega (arith, c.next_of.ensures, next t _ c.requires.to, c.if-next_of-ge-TOO_LARGE.false))

pub returns-then-walked-block-clause-right : goal.returns-then-walked-block-clause-right
returns-then-walked-block-clause-right c = plans_head _ _ _ c.requires _ _ c.signature_of-signature.ensures.number (front c.args.tables.now 0 (omega arith)) c.in_ok-walked.walked c.in_ok-walked.ensures.ends c.in_ok-walked.ensures.held _ c.if-walked-block.true (c.plan_head.ensures.right _ _ (c.in_ok-walked.ensures.taken (some_place _ c.in_ok-walked.walked.place)))

pub plan_chain-requires : goal.plan_chain-requires
plan_chain-requires c =
    let t = c.args.tables.now in
    let n = c.if-count-eq0.false in
    (c.requires.from, c.requires.to, omega (arith, c.count.ensures, front t 4 (omega arith)), omega (arith, c.next_of.ensures, next t _ c.requires.to, c.if-next_of-ge-TOO_LARGE.false))

pub returns-clause-right : goal.returns-clause-right
returns-clause-right c = plans_chain _ _ _ c.requires _ _ c.signature_of-signature.ensures.number (front c.args.tables.now 0 (omega arith)) c.in_ok-walked.walked c.in_ok-walked.ensures.ends c.in_ok-walked.ensures.held _ c.if-walked-block.false c.plan_chain.ensures.right
