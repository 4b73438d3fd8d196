-- `runner::drain` meets its contract: no slip at the start, and one batch more after each turn, until no whole slip is left.
-- Assumes nothing.
use mathlib.Core.Path.{refl}
use borrow.Author.Rules.{rules}
use Rattle.runner.proofs.Turns.{going_none, going_more, holds_on}
use Rattle.runner.proofs.Same.{same_none, same_more}
use Rattle.runner.proofs.drain.Goals as goal

pub loop-tables-init : goal.loop-tables-init
loop-tables-init g c = (going_none _ _, refl, same_none _ _)

pub first_slip-requires : goal.first_slip-requires
first_slip-requires g c = holds_on _ _ _ _ c.requires.index c.loop-tables.invariant.0.turns

pub batch-served-requires-clause-index : goal.batch-served-requires-clause-index
batch-served-requires-clause-index g c = holds_on _ _ _ _ c.requires.index c.loop-tables.invariant.0.turns

pub loop-tables-preserved : goal.loop-tables-preserved
loop-tables-preserved g c =
    (going_more _ _ _ _ _ _ _ _ c.loop-tables.invariant.0 c.batch-served.ensures.served, search rules, same_more _ _ _ _ _ _ c.loop-tables.invariant.2 c.batch-served.ensures.loans)
