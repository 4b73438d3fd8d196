-- The best position splits two or more distinct signatures: no position's smaller side is larger than its own, so where that were
-- empty all would be, and two of the signatures would agree at every position.
-- Assumes nothing.
use Prim.Native.Nat.{ℕ, zero, suc, ◌+◌, ◌-◌, ◌≤◌, ◌<◌, zero-le}
use native.Mathlib.Nat.{eq-or-lt_of_le}
use native.Mathlib.Omega.{arith}
use mathlib.Core.Path.{◌≡◌, refl, sym, ◌∙◌, ap}
use mathlib.Core.Logic.{⊎_elim}
use mathlib.Core.List.{List, [], ◌∷◌}
use lib.ListN.{length}
use borrow.Author.Tests.{lt-ltb, le-ltb, eq-eqb}
use Rattle.model.specs.Basics.{up_from}
use Rattle.model.specs.Signature.{bit_at}
use Rattle.model.specs.Build.{side, smaller, best_of, best_position}
use Rattle.model.specs.Tables.{signature_of}
use Rattle.model.proofs.Bits.{bit_below}
use Rattle.model.proofs.Best.{best_position_is}
use Rattle.model.proofs.Members.{total, Same}
use Rattle.model.proofs.Sides.{sides_total, sides_length}
use Rattle.signature.proofs.Bits.{bits_equal}
use Rattle.split.specs.Split.{hits, Apart, Below}
use Rattle.split.proofs.Sides.{ones_total}

module _ (F : ℕ) (of : ℕ → ℕ) (xs : List ℕ) where
  -- one position more
  pub best_yes : (best j : ℕ) (ps : List ℕ) → smaller F of best xs < smaller F of j xs → best_of F of xs best (j ∷ ps) ≡ best_of F of xs j ps
  unfolding best_of
  best_yes best j ps h = rw (lt-ltb (smaller F of best xs) (smaller F of j xs) h, best_of)

  pub best_no : (best j : ℕ) (ps : List ℕ) → smaller F of j xs ≤ smaller F of best xs → best_of F of xs best (j ∷ ps) ≡ best_of F of xs best ps
  unfolding best_of
  best_no best j ps h = rw (le-ltb (smaller F of best xs) (smaller F of j xs) h, best_of)

-- where the smaller side is empty the first two entries agree
agree : (F : ℕ) (of : ℕ → ℕ) (p x y : ℕ) (l : List ℕ) → smaller F of p (x ∷ y ∷ l) ≡ 0 → bit_at F (of x) p ≡ bit_at F (of y) p
unfolding smaller
agree F of p x y l e =
    let g : List ℕ = x ∷ y ∷ l in
    omega (arith, bit_below F (of x) p, bit_below F (of y) p, ones_total F of p g, sides_length F of p g, few l)
  where
    few : (l : List ℕ) → total (λ b. bit_at F (of b) p) l ≤ length l
    few [] = omega arith
    few (b ∷ l) = omega (arith, bit_below F (of b) p, few l)

module _ (F : ℕ) (sigs : List ℕ) (below : Below F sigs) where
  hits_self : (v b : ℕ) → signature_of sigs b ≡ v → hits sigs v b ≡ 1
  unfolding hits
  hits_self v b e = rw (eq-eqb (signature_of sigs b) v e, hits)

  -- two blocks of a group have not one signature
  not_one : (x y : ℕ) (l : List ℕ) → Apart sigs (x ∷ y ∷ l) → signature_of sigs x ≡ signature_of sigs y → ⊥
  unfolding Apart
  not_one x y l d e =
      let v : ℕ = signature_of sigs y in
      omega (arith, d v, hits_self v x e, hits_self v y refl)

  none_split : (x y : ℕ) (l : List ℕ) → 0 ≡ smaller F (signature_of sigs) (best_position F (signature_of sigs) (x ∷ y ∷ l)) (x ∷ y ∷ l) → signature_of sigs x ≡ signature_of sigs y
  unfolding Below
  none_split x y l e =
      bits_equal F (signature_of sigs x) (signature_of sigs y) (below (x - 1)) (below (y - 1)) (λ j lo hi.
      agree F (signature_of sigs) j x y l (omega (arith, (best_position_is F (signature_of sigs) (x ∷ y ∷ l) (omega arith)).most j lo hi)))

  -- both sides have some
  pub splits : (g : List ℕ) → Apart sigs g → 2 ≤ length g
      → (0 < length (side F (signature_of sigs) (best_position F (signature_of sigs) g) 0 g)) × (0 < length (side F (signature_of sigs) (best_position F (signature_of sigs) g) 1 g))
  unfolding smaller
  splits [] d h = absurd (omega arith)
  splits (x ∷ []) d h = absurd (omega arith)
  splits (x ∷ y ∷ l) d h =
      let z : 0 ≤ smaller F (signature_of sigs) (best_position F (signature_of sigs) (x ∷ y ∷ l)) (x ∷ y ∷ l) = zero-le in
      ⊎_elim (λ e. absurd (not_one x y l d (none_split x y l e))) (λ lt. omega arith) (eq-or-lt_of_le z)

-- a side of a group is a group
pub apart_side : (F : ℕ) (sigs : List ℕ) (p e : ℕ) (g : List ℕ) → e ≤ 1 → Apart sigs g → Apart sigs (side F (signature_of sigs) p e g)
unfolding Apart
apart_side F sigs p zero g h d v = omega (arith, d v, sides_total F (signature_of sigs) p (hits sigs v) g)
apart_side F sigs p (suc zero) g h d v = omega (arith, d v, sides_total F (signature_of sigs) p (hits sigs v) g)
apart_side F sigs p (suc (suc e)) g h d v = absurd (omega arith)

pub apart_same : (sigs a b : List ℕ) → Same a b → Apart sigs a → Apart sigs b
unfolding Apart
apart_same sigs a b s d v = omega (arith, d v, s (hits sigs v))

-- best is the best of the positions below j, with this smaller side: tried against those to come it gives the best of all
pub record Trying (F : ℕ) (of : ℕ → ℕ) (xs : List ℕ) (j best size : ℕ) : Type 0 where
  pub from : 1 ≤ best
  pub to : best ≤ F
  pub smaller_side : size ≡ smaller F of best xs
  pub best_of_all : best_of F of xs best (up_from (F + 1 - j) j) ≡ best_position F of xs

module _ (F : ℕ) (of : ℕ → ℕ) (xs : List ℕ) where
  pub trying_first : (size : ℕ) → 1 ≤ F → size ≡ smaller F of 1 xs → Trying F of xs 2 1 size
  trying_first size h e =
      let n : F + 1 - 2 ≡ F - 1 = omega arith in
      record { from = omega arith; to = h; smaller_side = e; best_of_all = ap (λ n. best_of F of xs 1 (up_from n 2)) n }

module _ {F : ℕ} {of : ℕ → ℕ} {xs : List ℕ} {j best size : ℕ} (t : Trying F of xs j best size) where
  tried : j ≤ F → best_of F of xs best (j ∷ up_from (F + 1 - (j + 1)) (j + 1)) ≡ best_position F of xs
  unfolding up_from
  tried h =
      let n : F + 1 - j ≡ suc (F + 1 - suc j) = omega arith in
      let o : j + 1 ≡ suc j = omega arith in
      rw o (rw n at t.best_of_all)

  pub trying_yes : (next : ℕ) → 2 ≤ j → j ≤ F → next ≡ smaller F of j xs → size < next → Trying F of xs (j + 1) j next
  trying_yes next lo h e lt =
      record { from = omega arith; to = h; smaller_side = e; best_of_all = sym (best_yes F of xs best j _ (rw (← t.smaller_side, ← e) lt)) ∙ tried h }

  pub trying_no : (next : ℕ) → j ≤ F → next ≡ smaller F of j xs → next ≤ size → Trying F of xs (j + 1) best size
  trying_no next h e le =
      record { from = t.from; to = t.to; smaller_side = t.smaller_side; best_of_all = sym (best_no F of xs best j _ (rw (← t.smaller_side, ← e) le)) ∙ tried h }

  pub trying_last : F < j → best ≡ best_position F of xs
  unfolding up_from best_of
  trying_last h = let n : F + 1 - j ≡ 0 = omega arith in rw n at t.best_of_all
