-- `runner::drain` meets its contract. The invariant is that of the batches so far; each takes at least one slip.
-- Assumes nothing.
use Prim.Native.Nat.{◌-◌}
use mathlib.Core.Path.{◌≡◌}
use lib.ListN.{length}
use Rattle.sigtree.specs.Held.{lent_in}
use Rattle.runner.proofs.Same.{Same}
use Rattle.runner.proofs.Turns.{Going}
use Rattle.runner.proofs.drain.Given as goal

abbrev pub invariant-loop-tables : goal.invariant-loop-tables
invariant-loop-tables g l =
    Going l.bytes (lent_in l.initial.tables l.initial.work) (lent_in l.tables l.work) l.at
    × (length l.text ≡ length l.initial.text)
    × Same l.initial.tables l.initial.work l.tables l.work

abbrev pub decreases-loop-tables : goal.decreases-loop-tables
decreases-loop-tables g l = length l.bytes - l.at
