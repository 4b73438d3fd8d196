-- `runner::serve_whole` meets its contract: none served at the start, and more after each turn.
-- Assumes nothing.
use mathlib.Core.Path.{refl}
use lib.ListN.{length-append}
use native.Mathlib.Omega.{arith}
use borrow.Author.Rules.{rules}
use Rattle.sigtree.specs.Held.{lent_in}
use Rattle.runner.proofs.Turns.{holds_on}
use Rattle.runner.proofs.Taken.{whole_none, read_more, read_none}
use Rattle.runner.proofs.Same.{same_none, same_more}
use Rattle.runner.proofs.serve_whole.Goals as goal

pub loop-init : goal.loop-init
loop-init g c = (whole_none _ _, omega arith, refl, refl, same_none _ _)

pub returns-then-read-eq0-clause-whole : goal.returns-then-read-eq0-clause-whole
returns-then-read-eq0-clause-whole g c =
    let inv = c.loop.invariant in
    read_none _ _ _ (lent_in c.args.tables.now c.args.work.now) _ _ _ _ _ _ inv.1 inv.0 c.fill-read.ensures.bytes c.if-read-eq0.true

pub drain-from-requires-clause-index : goal.drain-from-requires-clause-index
drain-from-requires-clause-index g c = holds_on _ _ _ _ c.requires.index c.loop.invariant.0.turns

pub loop-preserved : goal.loop-preserved
loop-preserved g c =
    let inv = c.loop.invariant in (
      read_more _ _ _ _ _ _ _ _ _ _ _ _ _ _ inv.1 (search rules) (search rules) inv.0 c.fill-read.ensures.bytes c.drain-from.ensures.drained c.shift-kept.ensures.1,
      grind (arith, length-append),
      search rules,
      search rules,
      same_more _ _ _ _ _ _ inv.4 c.drain-from.ensures.loans,
    )
