-- The laws of questions: what a yes to two tests at once says, which numbers are 1 to n, and when no question refuses.
-- Assumes nothing.
use Prim.Native.Nat.{ℕ, suc, ◌≤◌}
use native.Mathlib.Omega.{arith}
use mathlib.Core.Path.{◌≡◌, refl}
use mathlib.Core.Bool.{Bool, true, false, ◌&&◌}
use lib.Dec.{leb}
use borrow.Author.Tests.{le-leb, leb-true}
use Rattle.model.specs.Questions.{ask}

-- a test has one answer
pub true_false : {A : Type 0} {t : Bool} → t ≡ true → t ≡ false → A
true_false p q = let z : ◌≡◌ {A = ℕ} 0 1 = cc in absurd (omega arith)

-- two tests at once
pub both : {t u : Bool} → (t && u) ≡ true → (t ≡ true) × (u ≡ true)
both {t = true} e = (refl, e)
both {t = false} e = true_false e refl

-- the test of a number that is to be 1 to n, as a fact
pub in_range : (b n : ℕ) → (leb 1 b && leb b n) ≡ true → (1 ≤ b) × (b ≤ n)
in_range b n e = let r = both {t = leb 1 b} e in (leb-true 1 b r.0, leb-true b n r.1)

pub not_in_range : {A : Type 0} (b n : ℕ) → (leb 1 b && leb b n) ≡ false → 1 ≤ b → b ≤ n → A
not_in_range b n e h k = true_false {t = leb 1 b && leb b n} (rw (le-leb 1 b h, le-leb b n k)) e

-- a question whose number is not 0 gives 0 exactly where it passes and the later ones do
pub ask_zero : (n : ℕ) (t : Bool) (later : ℕ) → ask (suc n) t later ≡ 0 → (t ≡ true) × (later ≡ 0)
unfolding ask
ask_zero n true later e = (refl, e)
ask_zero n false later e = absurd (omega arith)
