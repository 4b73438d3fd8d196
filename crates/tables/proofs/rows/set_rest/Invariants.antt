-- So many of the words are copied.
-- Assumes nothing.
use Prim.Native.Nat.{ℕ}
use mathlib.Core.Path.{◌≡◌}
use mathlib.Core.List.{List}
use lib.ListN.{length}
use lib.Seq.{paste}
use Rattle.tables.proofs.rows.set_rest.Given as goal

abbrev pub invariant-loop-i : goal.invariant-loop-i
invariant-loop-i l =
    (length l.signatures ≡ length l.initial.signatures)
    × ((words : List ℕ) → l.initial.signatures ≡ paste words l.from l.signature 1 → length words ≡ length l.initial.signatures → l.signatures ≡ paste words l.from l.signature l.i)
