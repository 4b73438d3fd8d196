-- The index's signature slice after a call: the one lent where the answer is 0, and the old one where a call that changed nothing is
-- refused.
-- Assumes nothing.
use Prim.Native.Nat.{ℕ}
use mathlib.Core.Path.{◌≡◌, refl}
use mathlib.Core.Logic.{◌≢◌}
use mathlib.Core.List.{List}
use borrow.Author.Tests.{eq-eqb, ne_eqb}
use Rattle.model.specs.Lists.{Slice, own, another, lent_slice, slice_after}

pub slice_stays : (words : List ℕ) (s : Slice) (a : ℕ) (left : List ℕ) → a ≢ 0 → left ≡ lent_slice words s → slice_after words s a left ≡ words
slice_stays words own a left n e = e
slice_stays words (another ws) a left n e = rw (ne_eqb a 0 n, slice_after)

pub slice_goes : (words : List ℕ) (s : Slice) (a : ℕ) (left : List ℕ) → a ≡ 0 → slice_after words s a left ≡ left
slice_goes words own a left z = refl
slice_goes words (another ws) a left z = rw (eq-eqb a 0 z, slice_after)
