-- The side of a node that a signature takes, by the node's word and by the tables that the packed ones hold.
-- Assumes nothing.
use Prim.Native.Nat.{ℕ, zero, suc, ◌+◌, ◌-◌, ◌≤◌, ◌<◌}
use native.Mathlib.Omega.{arith}
use mathlib.Core.Path.{◌≡◌, refl, sym, ◌∙◌, ap, subst}
use mathlib.Core.Logic.{◌⊎◌, inl, inr, ◌↔◌}
use mathlib.Core.Bool.{Bool, true}
use lib.Dec.{eqb}
use mathlib.Core.List.{List}
use lib.ListN.{get_or}
use Rattle.model.specs.Signature.{bit_at}
use Rattle.model.specs.Tables.{position_of, side_of}
use Rattle.model.specs.Packed.{position_in, part_in, unpacked, Packs}
use Rattle.model.proofs.Packing.{node_position, node_left, node_right, part_left, part_right}
use Rattle.model.proofs.Asking.{true_false}
use Rattle.model.proofs.Bits.{bit_cases}
use Rattle.tables.specs.declared.side.Side.{Side}
use Rattle.tables.specs.declared.side.Side.TheVariants.{Left, Right}
use Rattle.tables.specs.Sides.{side_number}
use Rattle.tables.specs.Walk.{EdgeOf, EdgeIn}

le_cases : (e : ℕ) → e ≤ 1 → (e ≡ 0) ⊎ (e ≡ 1)
le_cases zero h = inl refl
le_cases (suc e) h = inr (omega arith)

pub no_side : {F w s : ℕ} → ((1 ≤ position_in w) × (position_in w ≤ F) → ⊥) → EdgeIn F w s 2
no_side n = record { fit = λ f. absurd (n f); node = λ h. absurd (omega arith); bit = λ h. absurd (omega arith) }

pub a_side : {F w s p e : ℕ} → p ≡ position_in w → 1 ≤ p → p ≤ F → e ≡ bit_at F s p → e ≤ 1 → EdgeIn F w s e
a_side {F} {w} {s} d l h x k = record { fit = λ _. k; node = λ _. (omega arith, omega arith); bit = λ _. x ∙ ap (bit_at F s) d }

-- the side of a bit that was tested
pub side_of_bit : (F s p : ℕ) (t : Bool) (side : Side) → t ≡ eqb (bit_at F s p) 1 → (side_number side ≡ 1) ↔ (t ≡ true) → side_number side ≡ bit_at F s p
side_of_bit F s p t side e h = go (bit_cases F s p) side h
  where
    go : (bit_at F s p ≡ 0) ⊎ (bit_at F s p ≡ 1) → (side : Side) → (side_number side ≡ 1) ↔ (t ≡ true) → side_number side ≡ bit_at F s p
    go (inl z) Left k = sym z
    go (inl z) Right k = true_false (k.0 refl) (e ∙ ap (λ (n : ℕ). eqb n 1) z)
    go (inr o) Left k = absurd (let x = k.1 (e ∙ ap (λ (n : ℕ). eqb n 1) o) in omega arith)
    go (inr o) Right k = sym o

module _ (B F : ℕ) (links nodes : List ℕ) (P : Packs B links nodes) (s i w e : ℕ) (from : 1 ≤ i) (to : i < B) (at : w ≡ get_or nodes (i - 1) 0) where
  position_at : position_of B (unpacked links nodes) i ≡ position_in w
  position_at = node_position B links nodes P i from ∙ ap position_in (sym at)

  -- by the node's number
  pub edge_of : EdgeIn F w s e → EdgeOf B F (unpacked links nodes) s i e
  edge_of E = record {
    fit = λ f. E.fit (subst (λ (p : ℕ). 1 ≤ p) position_at f.1, subst (λ (p : ℕ). p ≤ F) position_at f.2);
    node = λ h. let n = E.node h in (to, subst (λ (p : ℕ). 1 ≤ p) (sym position_at) n.0, subst (λ (p : ℕ). p ≤ F) (sym position_at) n.1);
    bit = λ h. E.bit h ∙ ap (bit_at F s) (sym position_at);
  }

  -- the reference there
  pub side_at_is : e ≤ 1 → part_in w (1 + e) ≡ side_of B (unpacked links nodes) i e
  side_at_is h = ap (λ (v : ℕ). part_in v (1 + e)) at ∙ go (le_cases e h)
    where
      go : (e ≡ 0) ⊎ (e ≡ 1) → part_in (get_or nodes (i - 1) 0) (1 + e) ≡ side_of B (unpacked links nodes) i e
      go (inl z) = part_left _ (1 + e) (omega arith) ∙ sym (node_left B links nodes P i from) ∙ ap (side_of B (unpacked links nodes) i) (sym z)
      go (inr z) = part_right _ (1 + e) (omega arith) ∙ sym (node_right B links nodes P i from) ∙ ap (side_of B (unpacked links nodes) i) (sym z)
