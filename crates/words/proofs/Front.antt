-- Words in front of those that a number needs are 0, so the others have the same number.
-- Assumes nothing.
use mathlib.Core.Path.{◌≡◌, refl, ap, ◌∙◌}
use mathlib.Core.List.{List, [], ◌∷◌}
use Prim.Native.Nat.{ℕ, zero, suc, ◌+◌, ◌-◌, ◌*◌, ◌^◌, ◌≤◌, ◌<◌}
use native.Mathlib.Nat.{zero-mul, mul-le-mul_right}
use native.Mathlib.Decide.{ℕ_discrete}
use native.Mathlib.Omega.{arith}
use lib.ListN.{length, drop}
use lib.Pow.{pow_mono}
use Rattle.model.specs.Limits.{word_bits}
use Rattle.model.specs.Wide.{number_in}

pub front_zero : (n : ℕ) (ws : List ℕ) → n ≤ length ws → number_in ws < 2 ^ (word_bits * (length ws - n)) → number_in (drop n ws) ≡ number_in ws
unfolding number_in
front_zero zero ws h l = refl
front_zero (suc n) [] h l = absurd (omega arith)
front_zero (suc n) (w ∷ ws) h l =
    let e : suc (length ws) - suc n ≡ length ws - n = omega arith in
    go (rw e at l) (ℕ_discrete w 0) (front_zero n ws (omega arith))
  where
    top : ℕ
    top = 2 ^ (word_bits * length ws)

    go : w * top + number_in ws < 2 ^ (word_bits * (length ws - n)) → Dec (w ≡ 0)
        → (number_in ws < 2 ^ (word_bits * (length ws - n)) → number_in (drop n ws) ≡ number_in ws) → number_in (drop n ws) ≡ w * top + number_in ws
    go l (yes e) rest =
        let z : w * top ≡ 0 = ap (λ (a : ℕ). a * top) e ∙ zero-mul top in
        rest (omega arith) ∙ omega arith
    go l (no f) rest =
        let k : word_bits * (length ws - n) ≤ word_bits * length ws = omega arith in
        let p : 2 ^ (word_bits * (length ws - n)) ≤ top = pow_mono k in
        let q : 1 ≤ w = omega arith in
        let r : 1 * top ≤ w * top = mul-le-mul_right top q in
        absurd (omega arith)
