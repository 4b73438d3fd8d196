-- `runner::batch` meets its contract. The invariant is that of the batch so far; all lengths are kept, so that there is room for a line.
-- Assumes nothing.
use Prim.Native.Nat.{◌-◌}
use mathlib.Core.Path.{◌≡◌}
use lib.ListN.{length}
use Rattle.sigtree.specs.Held.{lent_in}
use Rattle.runner.proofs.Same.{Same}
use Rattle.runner.specs.Served.{Batched}
use Rattle.runner.proofs.batch.Given as goal

abbrev pub invariant-loop-text : goal.invariant-loop-text
invariant-loop-text l =
    Batched l.bytes (lent_in l.initial.tables l.initial.work) (lent_in l.tables l.work) l.at l.used l.text
    × (l.at ≡ 0 → (l.used ≡ 0) × (l.tables.links.now ≡ l.initial.tables.links.now))
    × (length l.text ≡ length l.initial.text)
    × Same l.initial.tables l.initial.work l.tables l.work

abbrev pub decreases-loop-text : goal.decreases-loop-text
decreases-loop-text l = length l.bytes - l.at
