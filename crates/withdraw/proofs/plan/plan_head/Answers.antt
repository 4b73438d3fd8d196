-- `withdraw::plan::plan_head` meets its contract: its two tests are the definition's.
-- Assumes nothing.
use native.Mathlib.Omega.{arith}
use mathlib.Core.Path.{◌∙◌}
use Rattle.tables.proofs.Held.{next}
use Rattle.withdraw.proofs.Plans.{head_goes_on, head_last, head_raises, side_taken}
use Rattle.withdraw.proofs.plan.plan_head.Goals as goal

pub returns-then-next-ne0-clause-right : goal.returns-then-next-ne0-clause-right
returns-then-next-ne0-clause-right c F s taken = head_goes_on _ _ _ _ _ c.args.walked.place _ (c.next_of-next.ensures ∙ next c.args.tables.now _ c.requires.le_block.1) _ c.if-next-ne0.true

pub returns-then-next-ne0-clause-within : goal.returns-then-next-ne0-clause-within
returns-then-next-ne0-clause-within c =
    let f = c.requires.fits in
    (f.0, c.requires.inside.0, omega (arith, f.2, c.next_of-next.ensures, next c.args.tables.now _ c.requires.le_block.1))

pub returns-in-Some-Below-clause-right : goal.returns-in-Some-Below-clause-right
returns-in-Some-Below-clause-right c F s taken =
    let p = rw c.in-Some-Below.is-0 at c.requires.inside.1 in
    head_raises _ _ _ _ _ c.args.walked.place _ (c.next_of-next.ensures ∙ next c.args.tables.now _ c.requires.le_block.1) c.if-next-ne0.false c.args.walked.parent c.in-Some-Below.parent c.in-Some-Below.is-0 _
    (c.plan_raise.ensures.right _ _ _ (side_taken _ _ _ _ _ c.in-Some-Below.node-1 c.in-Some-Below.side p.1 (rw (c.in-Some-Below.is-1, c.in-Some-Below.is-0) at taken)))

pub returns-in_default-2-clause-right : goal.returns-in_default-2-clause-right
returns-in_default-2-clause-right c F s taken = head_last _ _ _ _ _ c.args.walked.place _ (c.next_of-next.ensures ∙ next c.args.tables.now _ c.requires.le_block.1) c.if-next-ne0.false c.args.walked.parent c.in_default.is-0
