-- `locate` meets its contract: at each byte the word that is looked for is found in what is left, and each branch keeps that.
-- Assumes nothing.
use Prim.Native.Nat.{◌≤◌, ◌-◌}
use mathlib.Core.Path.{◌≡◌}
use Rattle.model.specs.Words.{word_at}
use Rattle.words.proofs.Splitting.{rest}
use Rattle.words.proofs.splitter.locate.Given as goal

abbrev pub invariant-loop-i : goal.invariant-loop-i
invariant-loop-i l = (l.start ≤ l.i) × (l.seen ≤ l.start) × (rest l.text (l.n - l.seen) l.start l.i ≡ word_at l.text l.n)
