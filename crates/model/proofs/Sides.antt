-- The two sides of a list at a position. An entry is on one side, by its bit, so every sum over the list is the sum over its sides.
-- Assumes nothing.
use Prim.Native.Nat.{ℕ, ◌+◌}
use native.Mathlib.Omega.{arith}
use mathlib.Core.Path.{◌≡◌, refl, ap}
use mathlib.Core.Logic.{◌⊎◌, inl, inr, ◌≢◌}
use mathlib.Core.List.{List, [], ◌∷◌, Memᴰ}
use lib.Dec.{eqb}
use lib.ListN.{length}
use borrow.Author.Tests.{eq-eqb, ne_eqb, eqb-true}
use Rattle.model.specs.Basics.{keep}
use Rattle.model.specs.Signature.{bit_at}
use Rattle.model.specs.Build.{side}
use Rattle.model.proofs.Bits.{bit_cases}
use Rattle.model.proofs.Members.{total, total_one}
use Rattle.model.proofs.Keep.{keep_yes, keep_no, keep_in, in_keep}

module _ (F : ℕ) (of : ℕ → ℕ) (p : ℕ) where
  abbrev bit : ℕ → ℕ
  bit x = bit_at F (of x) p

  -- an entry is on the side of its bit
  pub side_in : (e x : ℕ) (l : List ℕ) → bit x ≡ e → side F of p e (x ∷ l) ≡ x ∷ side F of p e l
  side_in e x l h = keep_yes (λ x. eqb (bit x) e) x l (eq-eqb (bit x) e h)

  pub side_out : (e x : ℕ) (l : List ℕ) → bit x ≢ e → side F of p e (x ∷ l) ≡ side F of p e l
  side_out e x l h = keep_no (λ x. eqb (bit x) e) x l (ne_eqb (bit x) e h)

  -- the two sides together
  pub sides_total : (f : ℕ → ℕ) (l : List ℕ) → total f (side F of p 0 l) + total f (side F of p 1 l) ≡ total f l
  unfolding keep
  sides_total f [] = refl
  sides_total f (x ∷ l) = go (bit_cases F (of x) p) (sides_total f l)
    where
      go : (bit x ≡ 0) ⊎ (bit x ≡ 1) → total f (side F of p 0 l) + total f (side F of p 1 l) ≡ total f l → total f (side F of p 0 (x ∷ l)) + total f (side F of p 1 (x ∷ l)) ≡ f x + total f l
      go (inl h) ih = omega (arith, ap (total f) (side_in 0 x l h), ap (total f) (side_out 1 x l (omega arith)))
      go (inr h) ih = omega (arith, ap (total f) (side_out 0 x l (omega arith)), ap (total f) (side_in 1 x l h))

  pub sides_length : (l : List ℕ) → length (side F of p 0 l) + length (side F of p 1 l) ≡ length l
  sides_length l = omega (arith, sides_total (λ _. 1) l, total_one (side F of p 0 l), total_one (side F of p 1 l), total_one l)

  -- members of a side
  pub side_member : (e : ℕ) (l : List ℕ) (b : ℕ) → Memᴰ b (side F of p e l) → Memᴰ b l × (bit b ≡ e)
  side_member e l b m = let r = keep_in (λ x. eqb (bit x) e) l b m in (r.0, eqb-true (bit b) e r.1)

  pub side_has : (e : ℕ) (l : List ℕ) (b : ℕ) → Memᴰ b l → bit b ≡ e → Memᴰ b (side F of p e l)
  side_has e l b m q = in_keep (λ x. eqb (bit x) e) l b m (eq-eqb (bit b) e q)
