-- A bit is 0 or 1. The other laws of bits stand in the crate `signature`.
-- Assumes nothing.
use Prim.Native.Nat.{ℕ, zero, suc, ◌<◌}
use native.Mathlib.Omega.{arith}
use mathlib.Core.Path.{◌≡◌, refl}
use mathlib.Core.Logic.{◌⊎◌, inl, inr}
use Rattle.model.specs.Signature.{bit_at}

two : (n : ℕ) → n < 2 → (n ≡ 0) ⊎ (n ≡ 1)
two zero h = inl refl
two (suc zero) h = inr refl
two (suc (suc n)) h = absurd (omega arith)

pub bit_below : (F s p : ℕ) → bit_at F s p < 2
bit_below F s p = omega arith

pub bit_cases : (F s p : ℕ) → (bit_at F s p ≡ 0) ⊎ (bit_at F s p ≡ 1)
bit_cases F s p = two (bit_at F s p) (bit_below F s p)
