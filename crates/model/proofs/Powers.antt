-- A search compares at most 2 to the number of zero bits: it branches only at positions not set in the query, and a path tests each
-- position once, so each branching uses up one zero bit more.
-- Assumes nothing.
use Prim.Native.Nat.{ℕ, suc, ◌-◌, ◌^◌, ◌≤◌, zero-le}
use native.Mathlib.Nat.{pow-suc}
use native.Mathlib.Omega.{arith}
use mathlib.Core.Path.{◌≡◌, ap, subst}
use mathlib.Core.Logic.{◌⊎◌, inl, inr}
use mathlib.Core.Bool.{Bool}
use mathlib.Core.List.{List, [], ◌∷◌}
use lib.Dec.{eqb}
use lib.ListN.{length, length-append}
use lib.Pow.{pow_pos}
use borrow.Author.Tests.{eq-eqb, ne_eqb}
use Rattle.model.specs.Basics.{keep, up_from}
use Rattle.model.specs.Signature.{bit_at, zero_bits}
use Rattle.model.specs.Tree.{Tree, nothing, leaf, node, Edge, edge, compared}
use Rattle.model.proofs.Bits.{bit_cases}
use Rattle.model.proofs.Pigeon.{distinct_fits}
use Rattle.model.proofs.Keep.{keep_yes, keep_no, keep_in, in_keep, keep_distinct}
use Rattle.model.proofs.Trees.{Below, Proper, positions, Tested, tested_none, tested_more}

module _ (F q : ℕ) where
  -- is the position a zero bit?
  abbrev is_zero : ℕ → Bool
  is_zero j = eqb (bit_at F q j) 0

  -- the zero bits that a path tests
  abbrev used : List Edge → List ℕ
  used es = keep is_zero (positions es)

  -- they are no more than there are
  used_fits : (es : List Edge) → Tested F es → length (used es) ≤ length (zero_bits F q)
  used_fits es d =
      distinct_fits (used es) (zero_bits F q) (keep_distinct is_zero (positions es) d.0)
      (λ p m. let r = keep_in is_zero (positions es) p m in in_keep is_zero (up_from F 1) p (d.1 p r.0) r.1)

  used_zero : (p e : ℕ) (es : List Edge) → bit_at F q p ≡ 0 → length (used (edge p e ∷ es)) ≡ suc (length (used es))
  used_zero p e es h = ap length (keep_yes is_zero p (positions es) (eq-eqb (bit_at F q p) 0 h))

  used_one : (p e : ℕ) (es : List Edge) → bit_at F q p ≡ 1 → length (used (edge p e ∷ es)) ≡ length (used es)
  used_one p e es h = ap length (keep_no is_zero p (positions es) (ne_eqb (bit_at F q p) 0 (omega arith)))

  powers_below : (es : List Edge) (t : Tree) → Below F es t → Tested F es → length (compared F q t) ≤ 2 ^ (length (zero_bits F q) - length (used es))
  unfolding compared
  powers_below es nothing f d = absurd f
  powers_below es (leaf s) f d = pow_pos (length (zero_bits F q) - length (used es))
  powers_below es (node p l r) f d =
      go (bit_cases F q p) (powers_below (edge p 0 ∷ es) l f.3 (more 0)) (powers_below (edge p 1 ∷ es) r f.4 (more 1))
    where
      more : (e : ℕ) → Tested F (edge p e ∷ es)
      more e = tested_more F p e es f.0 f.1 f.2 d

      go : (bit_at F q p ≡ 0) ⊎ (bit_at F q p ≡ 1)
          → length (compared F q l) ≤ 2 ^ (length (zero_bits F q) - length (used (edge p 0 ∷ es)))
          → length (compared F q r) ≤ 2 ^ (length (zero_bits F q) - length (used (edge p 1 ∷ es)))
          → length (compared F q (node p l r)) ≤ 2 ^ (length (zero_bits F q) - length (used es))
      go (inl e) a b =
          let k = used_fits (edge p 0 ∷ es) (more 0) in
          let Z : ℕ = length (zero_bits F q) - suc (length (used es)) in
          let g : length (zero_bits F q) - length (used es) ≡ suc Z = omega (arith, used_zero p 0 es e) in
          let x : length (compared F q l) ≤ 2 ^ Z = subst (λ (n : ℕ). length (compared F q l) ≤ 2 ^ (length (zero_bits F q) - n)) (used_zero p 0 es e) a in
          let y : length (compared F q r) ≤ 2 ^ Z = subst (λ (n : ℕ). length (compared F q r) ≤ 2 ^ (length (zero_bits F q) - n)) (used_zero p 1 es e) b in
          rw (e, compared, g) (omega (arith, length-append (compared F q l) (compared F q r), pow-suc 2 Z))
      go (inr e) a b = rw (e, compared) (subst (λ (n : ℕ). length (compared F q r) ≤ 2 ^ (length (zero_bits F q) - n)) (used_one p 1 es e) b)

  pub compared_powers : (t : Tree) → Proper F t → length (compared F q t) ≤ 2 ^ length (zero_bits F q)
  unfolding compared keep
  compared_powers t (inl e) = rw e zero-le
  compared_powers t (inr f) =
      let e : length (zero_bits F q) - length (used []) ≡ length (zero_bits F q) = omega arith in
      subst (λ (n : ℕ). length (compared F q t) ≤ 2 ^ n) e (powers_below [] t f (tested_none F))
