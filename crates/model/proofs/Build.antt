-- Rebuild's tree depends on the set of the signatures alone: the sides of a split are the same sets, whatever the order, so every
-- choice of a position is the same.
-- Assumes nothing.
use Prim.Native.Nat.{ℕ, zero, suc, ◌-◌, min}
use native.Mathlib.Omega.{arith}
use mathlib.Core.Path.{◌≡◌, refl, ◌∙◌, ap, ap₂}
use mathlib.Core.List.{List, [], ◌∷◌}
use mathlib.Core.Bool.{true, false}
use lib.Dec.{eqb, ltb}
use lib.ListN.{length}
use Rattle.model.specs.Basics.{keep, up_from}
use Rattle.model.specs.Signature.{bit_at}
use Rattle.model.specs.Tree.{leaf}
use Rattle.model.specs.Build.{side, smaller, best_of, best_position, build_within, build}
use Rattle.model.proofs.Members.{Same, same_length}
use Rattle.model.proofs.Keep.{keep_same}

-- the same three signatures in two orders
two_orders : build 2 (0b01 ∷ 0b00 ∷ 0b10 ∷ []) ≡ build 2 (0b10 ∷ 0b00 ∷ 0b01 ∷ [])
unfolding keep up_from smaller best_of build_within
two_orders = refl

module _ (F : ℕ) (of : ℕ → ℕ) where
  pub side_same : (p e : ℕ) (k l : List ℕ) → Same k l → Same (side F of p e k) (side F of p e l)
  side_same p e k l h = keep_same (λ x. eqb (bit_at F (of x) p) e) k l h

  pub smaller_same : (p : ℕ) (k l : List ℕ) → Same k l → smaller F of p k ≡ smaller F of p l
  unfolding smaller
  smaller_same p k l h = ap₂ min (same_length (side F of p 0 k) (side F of p 0 l) (side_same p 0 k l h)) (same_length (side F of p 1 k) (side F of p 1 l) (side_same p 1 k l h))

  among_same : (k l : List ℕ) → Same k l → (best : ℕ) (ps : List ℕ) → best_of F of k best ps ≡ best_of F of l best ps
  unfolding best_of
  among_same k l h best [] = refl
  among_same k l h best (p ∷ ps) = rw (smaller_same best k l h, smaller_same p k l h) (among_same k l h (elim (ltb (smaller F of best l) (smaller F of p l)) [ true ↦ p | false ↦ best ]) ps)

  pub best_same : (k l : List ℕ) → Same k l → best_position F of k ≡ best_position F of l
  best_same k l h = among_same k l h 1 (up_from (F - 1) 2)

within_same : (n F : ℕ) (k l : List ℕ) → Same k l → build_within n F k ≡ build_within n F l
unfolding build_within
within_same zero F k l h = refl
within_same (suc n) F [] [] h = refl
within_same (suc n) F [] (y ∷ l) h = absurd (omega (arith, same_length [] (y ∷ l) h))
within_same (suc n) F (x ∷ k) [] h = absurd (omega (arith, same_length (x ∷ k) [] h))
within_same (suc n) F (x ∷ []) (y ∷ []) h = ap leaf (omega (arith, h (λ s. s)))
within_same (suc n) F (x ∷ []) (y ∷ z ∷ l) h = absurd (omega (arith, same_length (x ∷ []) (y ∷ z ∷ l) h))
within_same (suc n) F (x ∷ w ∷ k) (y ∷ []) h = absurd (omega (arith, same_length (x ∷ w ∷ k) (y ∷ []) h))
within_same (suc n) F (x ∷ w ∷ k) (y ∷ z ∷ l) h =
    let p : ℕ = best_position F (λ s. s) (y ∷ z ∷ l) in
    let e : best_position F (λ s. s) (x ∷ w ∷ k) ≡ p = best_same F (λ s. s) (x ∷ w ∷ k) (y ∷ z ∷ l) h in
    let at : (b : ℕ) → build_within n F (side F (λ s. s) p b (x ∷ w ∷ k)) ≡ build_within n F (side F (λ s. s) p b (y ∷ z ∷ l)) =
    λ b. within_same n F (side F (λ s. s) p b (x ∷ w ∷ k)) (side F (λ s. s) p b (y ∷ z ∷ l)) (side_same F (λ s. s) p b (x ∷ w ∷ k) (y ∷ z ∷ l) h) in
    rw (e, at 0, at 1)

pub build_same : (F : ℕ) (k l : List ℕ) → Same k l → build F k ≡ build F l
build_same F k l h = ap (λ (n : ℕ). build_within n F k) (same_length k l h) ∙ within_same (length l) F k l h
