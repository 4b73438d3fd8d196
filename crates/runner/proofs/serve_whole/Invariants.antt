-- `runner::serve_whole` meets its contract. The invariant is that every whole slip so far was served, and that all lengths are kept.
-- Assumes nothing.
use Prim.Native.Nat.{◌≤◌}
use mathlib.Core.Path.{◌≡◌}
use lib.ListN.{length, take}
use Rattle.sigtree.specs.Held.{lent_in}
use Rattle.runner.proofs.Same.{Same}
use Rattle.runner.specs.Served.{Whole}
use Rattle.runner.proofs.serve_whole.Given as goal

abbrev pub invariant-loop : goal.invariant-loop
invariant-loop g l =
    Whole (g.R.Read.remaining l.initial.reader) (g.R.Read.remaining l.reader) (lent_in l.initial.tables l.initial.work) (lent_in l.tables l.work) (take l.kept l.bytes)
    × (l.kept ≤ length l.bytes) × (length l.bytes ≡ length l.initial.bytes) × (length l.text ≡ length l.initial.text)
    × Same l.initial.tables l.initial.work l.tables l.work
