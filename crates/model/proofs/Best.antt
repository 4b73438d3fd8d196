-- The position at which a rebuild splits: of 1 to F the one where the smaller side is largest, the lowest on a tie. Each position
-- in turn takes the place of the best so far only where its smaller side is larger.
-- Assumes nothing.
use Prim.Native.Nat.{ℕ, zero, suc, ◌+◌, ◌-◌, ◌≤◌, ◌<◌}
use native.Mathlib.Decide.{ℕ_discrete}
use native.Mathlib.Omega.{arith}
use mathlib.Core.Path.{◌≡◌, refl}
use mathlib.Core.Bool.{Bool, true, false}
use mathlib.Core.List.{List, [], ◌∷◌}
use lib.Dec.{ltb}
use borrow.Author.Tests.{ltb-true, ltb-false}
use Rattle.model.specs.Basics.{up_from, keep}
use Rattle.model.specs.Build.{smaller, best_of, best_position}

-- 11 and 00 are split as well at position 2 as at 1
tie : best_position 2 (λ s. s) (0b11 ∷ 0b00 ∷ []) ≡ 1
unfolding best_of smaller keep up_from
tie = refl

-- p is the best of the positions 1 to n
pub record Best (F : ℕ) (of : ℕ → ℕ) (xs : List ℕ) (n p : ℕ) : Type 0 where
  pub from : 1 ≤ p
  pub to : p ≤ n
  pub most : (i : ℕ) → 1 ≤ i → i ≤ n → smaller F of i xs ≤ smaller F of p xs
  pub lowest : (i : ℕ) → 1 ≤ i → i < p → smaller F of i xs < smaller F of p xs

module _ (F : ℕ) (of : ℕ → ℕ) (xs : List ℕ) where
  -- the next position is better than the best so far
  takes : (j best : ℕ) → Best F of xs j best → smaller F of best xs < smaller F of (suc j) xs → Best F of xs (suc j) (suc j)
  takes j best b h = record {
    from = omega arith;
    to = omega arith;
    most = λ i x y. go i x y (ℕ_discrete i (suc j));
    lowest = λ i x y. omega (arith, b.most i x (omega arith));
  }
    where
      go : (i : ℕ) → 1 ≤ i → i ≤ suc j → Dec (i ≡ suc j) → smaller F of i xs ≤ smaller F of (suc j) xs
      go i x y (yes e) = rw e (omega arith)
      go i x y (no d) = omega (arith, b.most i x (omega arith))

  -- it is not
  keeps : (j best : ℕ) → Best F of xs j best → smaller F of (suc j) xs ≤ smaller F of best xs → Best F of xs (suc j) best
  keeps j best b h = record { from = b.from; to = omega (arith, b.to); most = λ i x y. go i x y (ℕ_discrete i (suc j)); lowest = b.lowest }
    where
      go : (i : ℕ) → 1 ≤ i → i ≤ suc j → Dec (i ≡ suc j) → smaller F of i xs ≤ smaller F of best xs
      go i x y (yes e) = rw e h
      go i x y (no d) = b.most i x (omega arith)

  best_from : (n j best : ℕ) → Best F of xs j best → Best F of xs (j + n) (best_of F of xs best (up_from n (suc j)))
  unfolding best_of up_from
  best_from zero j best b = let e : j + 0 ≡ j = omega arith in rw e b
  best_from (suc n) j best b = let e : j + suc n ≡ suc j + n = omega arith in rw e (go (ltb (smaller F of best xs) (smaller F of (suc j) xs)) refl (best_from n (suc j)))
    where
      go : (t : Bool) → ltb (smaller F of best xs) (smaller F of (suc j) xs) ≡ t
          → ((c : ℕ) → Best F of xs (suc j) c → Best F of xs (suc j + n) (best_of F of xs c (up_from n (suc (suc j)))))
          → Best F of xs (suc j + n) (best_of F of xs best (suc j ∷ up_from n (suc (suc j))))
      go true h ih = rw (h, best_of) (ih (suc j) (takes j best b (ltb-true _ _ h)))
      go false h ih = rw (h, best_of) (ih best (keeps j best b (ltb-false _ _ h)))

  pub best_position_is : 1 ≤ F → Best F of xs F (best_position F of xs)
  best_position_is f =
      let e : 1 + (F - 1) ≡ F = omega arith in
      rw e at (best_from (F - 1) 1 1 (record {
        from = omega arith;
        to = omega arith;
        most = λ i x y. let o : i ≡ 1 = omega arith in rw o (omega arith);
        lowest = λ i x y. absurd (omega arith);
      }))
