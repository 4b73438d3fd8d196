-- `runner::batch` meets its contract: a batch of no slip at the start, and of one more after each turn.
-- Assumes nothing.
use mathlib.Core.Path.{refl}
use native.Mathlib.Omega.{arith}
use lib.ListN.{length-drop}
use borrow.Author.Rules.{rules}
use Rattle.runner.proofs.Turns.{slip_some, slip_inside, batch_none, batch_more, holds_on}
use Rattle.runner.proofs.Same.{same_none, same_more}
use Rattle.runner.proofs.batch.Goals as goal

pub loop-text-init : goal.loop-text-init
loop-text-init c = (batch_none _ _ _, (λ e. (refl, refl)), refl, same_none _ _)

pub first_slip-requires : goal.first_slip-requires
first_slip-requires c = holds_on _ _ _ _ c.requires.index c.loop-text.invariant.0.turns

pub serve_one-used-requires-clause-room : goal.serve_one-used-requires-clause-room
serve_one-used-requires-clause-room c = (slip_some _ _ _ c.in-Some.ensures, omega (arith, c.loop-text-test, c.requires.room, c.loop-text.invariant.2, c.loop-text.invariant.3.1.output_long))

pub serve_one-used-requires-clause-index : goal.serve_one-used-requires-clause-index
serve_one-used-requires-clause-index c = holds_on _ _ _ _ c.requires.index c.loop-text.invariant.0.turns

pub loop-text-smaller : goal.loop-text-smaller
loop-text-smaller c = omega (arith, slip_some _ _ _ c.in-Some.ensures, slip_inside _ _ _ c.in-Some.ensures, length-drop c.loop-text.at c.args.bytes.now)

pub loop-text-preserved : goal.loop-text-preserved
loop-text-preserved c =
    let l = c.loop-text in
    let s = c.serve_one-used in (
      batch_more _ _ _ _ _ _ _ _ _ _ l.invariant.0 s.ensures.served c.in-Some.ensures (omega (arith, s.ensures.served.room, c.loop-text-test, l.invariant.2, l.invariant.3.1.output_long, s.ensures.loans.1.output_long, c.requires.room)),
      (λ e. absurd (omega (arith, e, slip_some _ _ _ c.in-Some.ensures))),
      search rules,
      same_more _ _ _ _ _ _ l.invariant.3 s.ensures.loans,
    )
