-- The two sides of a list at a position: the ones are as many as the sum of the bits, and a list parted in place has its sides there,
-- since a sum over either part is the sum over the list of what has that bit.
-- Assumes nothing.
use Prim.Native.Nat.{ℕ, ◌+◌, ◌<◌}
use native.Mathlib.Omega.{arith}
use mathlib.Core.Path.{◌≡◌, refl, ◌∙◌, ap}
use mathlib.Core.Logic.{◌⊎◌, inl, inr}
use mathlib.Core.List.{List, [], ◌∷◌}
use lib.Dec.{eqb}
use lib.ListN.{length, get_or, take, drop, length-drop}
use lib.Seq.{get_or-take, get_or-drop, length-take-le}
use Rattle.std.specs.List.{sum_by}
use Rattle.std.proofs.lemmas.List.Recursion.{is_sum_by}
use Rattle.model.specs.Basics.{keep}
use Rattle.model.specs.Signature.{bit_at}
use Rattle.model.specs.Build.{side}
use Rattle.model.proofs.Bits.{bit_cases}
use Rattle.model.proofs.Keep.{gate, keep_total}
use Rattle.model.proofs.Members.{total, Same}
use Rattle.model.proofs.Sides.{side_in, side_out}
use Rattle.split.specs.Split.{Parted}
use Rattle.split.proofs.Sums.{total_cong, total_zero, total_split}

module _ (F : ℕ) (of : ℕ → ℕ) (p : ℕ) where
  abbrev bit : ℕ → ℕ
  bit x = bit_at F (of x) p

  -- the ones are counted by their bits
  pub ones_total : (l : List ℕ) → length (side F of p 1 l) ≡ total bit l
  unfolding keep
  ones_total [] = refl
  ones_total (x ∷ l) = go (bit_cases F (of x) p) (ones_total l)
    where
      go : (bit x ≡ 0) ⊎ (bit x ≡ 1) → length (side F of p 1 l) ≡ total bit l → length (side F of p 1 (x ∷ l)) ≡ bit x + total bit l
      go (inl h) ih = omega (arith, ap length (side_out F of p 1 x l (omega arith)))
      go (inr h) ih = omega (arith, ap length (side_in F of p 1 x l h))

  -- as std sums them
  pub ones_sum : (l : List ℕ) → length (side F of p 1 l) ≡ sum_by bit l
  ones_sum l = ones_total l ∙ is_sum_by (total bit) bit refl (λ _ _. refl) l

-- a list parted in place has its sides there
module _ (F : ℕ) (of : ℕ → ℕ) (p : ℕ) (before after : List ℕ) (k : ℕ) (h : Parted F of p before after k) where
  low_at : (i : ℕ) → i < length (take k after) → bit_at F (of (get_or (take k after) i 0)) p ≡ 0
  low_at i q =
      let n = length-take-le k after h.fits in
      let r : i < k = omega arith in
      rw get_or-take (h.low i r)

  high_at : (i : ℕ) → i < length (drop k after) → bit_at F (of (get_or (drop k after) i 0)) p ≡ 1
  high_at i q =
      let n = length-drop k after in
      rw get_or-drop (h.high (k + i) (omega arith) (omega arith))

  pub parted_left : Same (take k after) (side F of p 0 before)
  parted_left f =
      let g : ℕ → ℕ = λ x. gate (eqb (bit_at F (of x) p) 0) (f x) in
      let a : total f (take k after) ≡ total g (take k after) = total_cong f g (take k after) (λ i q. rw (low_at i q)) in
      let b : total g (drop k after) ≡ 0 = total_cong g (λ _. 0) (drop k after) (λ i q. rw (high_at i q)) ∙ total_zero (drop k after) in
      omega (arith, total_split g k after, h.same g, keep_total (λ x. eqb (bit_at F (of x) p) 0) f before)

  pub parted_right : Same (drop k after) (side F of p 1 before)
  parted_right f =
      let g : ℕ → ℕ = λ x. gate (eqb (bit_at F (of x) p) 1) (f x) in
      let a : total f (drop k after) ≡ total g (drop k after) = total_cong f g (drop k after) (λ i q. rw (high_at i q)) in
      let b : total g (take k after) ≡ 0 = total_cong g (λ _. 0) (take k after) (λ i q. rw (low_at i q)) ∙ total_zero (take k after) in
      omega (arith, total_split g k after, h.same g, keep_total (λ x. eqb (bit_at F (of x) p) 1) f before)
