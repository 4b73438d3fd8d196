-- The entries that a test keeps of the numbers from j on: one number more, and that they ascend.
-- Assumes nothing.
use Prim.Native.Nat.{ℕ, zero, suc, ◌+◌, ◌≤◌}
use native.Mathlib.Omega.{arith}
use mathlib.Core.Path.{◌≡◌, refl, sym, ◌∙◌, ap, subst}
use mathlib.Core.Bool.{Bool, true, false}
use mathlib.Core.List.{List, [], ◌∷◌, ◌++◌}
use Rattle.model.specs.Basics.{pick, keep, up_from, Ascending}
use Rattle.model.proofs.Keep.{keep_yes, keep_no, keep_append, up_from_last}

-- no number, and one number more
pub keep_empty : (test : ℕ → Bool) → keep test (up_from 0 1) ≡ []
unfolding keep up_from
keep_empty test = refl

pub keep_last : (test : ℕ → Bool) (n : ℕ) → keep test (up_from (suc n) 1) ≡ keep test (up_from n 1) ++ pick (test (suc n)) (suc n ∷ []) []
unfolding keep
keep_last test n =
    let e : 1 + n ≡ suc n = omega arith in
    ap (keep test) (up_from_last n 1) ∙ keep_append test (up_from n 1) ((1 + n) ∷ []) ∙ rw e (ap (λ (l : List ℕ). keep test (up_from n 1) ++ l) (one (test (suc n)) refl))
  where
    one : (t : Bool) → test (suc n) ≡ t → keep test (suc n ∷ []) ≡ pick t (suc n ∷ []) []
    one true e = keep_yes test (suc n) [] e
    one false e = keep_no test (suc n) [] e

-- each entry at least lo, and above the one before it
abbrev Rising : ℕ → List ℕ → Type 0
Rising lo [] = Unit {0}
Rising lo (x ∷ xs) = (lo ≤ x) × Rising (suc x) xs

rising_from : (lo : ℕ) (xs : List ℕ) → Rising (suc lo) xs → Rising lo xs
rising_from lo [] r = tt
rising_from lo (x ∷ xs) r = let h = r.0 in (omega arith, r.1)

kept_rising : (test : ℕ → Bool) (n j : ℕ) → Rising j (keep test (up_from n j))
unfolding keep up_from
kept_rising test zero j = tt
kept_rising test (suc n) j = go (test j) refl (kept_rising test n (suc j))
  where
    go : (t : Bool) → test j ≡ t → Rising (suc j) (keep test (up_from n (suc j))) → Rising j (keep test (j ∷ up_from n (suc j)))
    go true e ih = subst (Rising j) (sym (keep_yes test j (up_from n (suc j)) e)) (omega arith, ih)
    go false e ih = subst (Rising j) (sym (keep_no test j (up_from n (suc j)) e)) (rising_from j (keep test (up_from n (suc j))) ih)

rising_ascends : (lo : ℕ) (xs : List ℕ) → Rising lo xs → Ascending xs
rising_ascends lo [] r = tt
rising_ascends lo (x ∷ []) r = tt
rising_ascends lo (x ∷ y ∷ ys) r = let h = r.1.0 in (omega arith, rising_ascends (suc x) (y ∷ ys) r.1)

pub kept_ascends : (test : ℕ → Bool) (n j : ℕ) → Ascending (keep test (up_from n j))
kept_ascends test n j = rising_ascends j (keep test (up_from n j)) (kept_rising test n j)
