-- The filed blocks of 1 to n as a list with none twice: as long as their number, and with each of them.
-- Assumes nothing.
use Prim.Native.Nat.{ℕ, zero, suc, ◌≤◌}
use native.Mathlib.Decide.{ℕ_discrete}
use native.Mathlib.Omega.{arith}
use mathlib.Core.Path.{◌≡◌, refl, ap}
use mathlib.Core.Bool.{Bool}
use mathlib.Core.List.{List, Memᴰ}
use lib.Dec.{eqb}
use lib.ListN.{length}
use borrow.Author.Tests.{eq-eqb, ne_eqb, eqb-true}
use Rattle.model.specs.Basics.{keep}
use Rattle.model.specs.Tables.{filed_of}
use Rattle.model.specs.Sound.{filed_up_to}
use Rattle.model.proofs.Pigeon.{Distinct, down_from, down_from_has, down_from_range, down_from_distinct}
use Rattle.model.proofs.Keep.{keep_yes, keep_no, keep_in, in_keep, keep_distinct}

abbrev pub is_filed : List ℕ → ℕ → Bool
is_filed L b = eqb (filed_of L b) 1

module _ (L : List ℕ) where
  -- the filed ones of the blocks 1 to n
  abbrev pub filed_list : ℕ → List ℕ
  filed_list n = keep (is_filed L) (down_from n)

  pub filed_length : (n : ℕ) → ((b : ℕ) → 1 ≤ b → b ≤ n → filed_of L b ≤ 1) → length (filed_list n) ≡ filed_up_to L n
  unfolding keep
  filed_length zero bit = refl
  filed_length (suc n) bit = go (ℕ_discrete (filed_of L (suc n)) 1) (filed_length n (λ b h k. bit b h (omega arith)))
    where
      go : Dec (filed_of L (suc n) ≡ 1) → length (filed_list n) ≡ filed_up_to L n → length (filed_list (suc n)) ≡ filed_up_to L (suc n)
      go (yes e) ih = omega (arith, ap length (keep_yes (is_filed L) (suc n) (down_from n) (eq-eqb _ _ e)))
      go (no ne) ih = omega (arith, ap length (keep_no (is_filed L) (suc n) (down_from n) (ne_eqb _ _ ne)), bit (suc n) (omega arith) (omega arith))

  pub filed_in : (n b : ℕ) → Memᴰ b (filed_list n) → (1 ≤ b) × (b ≤ n) × (filed_of L b ≡ 1)
  filed_in n b m =
      let q = keep_in (is_filed L) (down_from n) b m in
      let g = down_from_range n b q.0 in
      (g.0, g.1, eqb-true _ _ q.1)

  pub filed_has : (n b : ℕ) → 1 ≤ b → b ≤ n → filed_of L b ≡ 1 → Memᴰ b (filed_list n)
  filed_has n b h k e = in_keep (is_filed L) (down_from n) b (down_from_has n b h k) (eq-eqb _ _ e)

  pub filed_distinct : (n : ℕ) → Distinct (filed_list n)
  filed_distinct n = keep_distinct (is_filed L) (down_from n) (down_from_distinct n)
