-- What the loop of `partition` keeps, and one law for each of its branches.
-- Assumes nothing.
use Prim.Native.Nat.{ℕ, ◌+◌, ◌-◌, ◌≤◌, ◌<◌}
use native.Mathlib.Nat.{eq-or-lt_of_le}
use native.Mathlib.Omega.{arith}
use mathlib.Core.Path.{◌≡◌, refl, ◌∙◌}
use mathlib.Core.Logic.{⊎_elim}
use mathlib.Core.List.{List}
use lib.ListN.{length, get_or, set, length-set}
use lib.Seq.{get_or-set_other, get_or-set_same}
use borrow.Author.Count.{below_more}
use Rattle.model.specs.Signature.{bit_at}
use Rattle.model.specs.Tables.{signature_of}
use Rattle.model.proofs.Bits.{bit_below}
use Rattle.model.proofs.Members.{Same}
use Rattle.split.specs.Split.{Blocks, Parted}
use Rattle.split.proofs.Sums.{same_refl, same_sym, same_trans, same_swap, blocks_same}

-- before low the bit is 0, from end on it is 1
pub record Parting (F : ℕ) (of : ℕ → ℕ) (p : ℕ) (before after : List ℕ) (low end : ℕ) : Type 0 where
  pub same : Same after before
  pub len : length after ≡ length before
  pub order : low ≤ end
  pub fits : end ≤ length after
  pub zeros : (i : ℕ) → i < low → bit_at F (of (get_or after i 0)) p ≡ 0
  pub ones : (i : ℕ) → end ≤ i → i < length after → bit_at F (of (get_or after i 0)) p ≡ 1

pub parting_start : (F : ℕ) (of : ℕ → ℕ) (p : ℕ) (l : List ℕ) → Parting F of p l l 0 (length l)
parting_start F of p l =
    record { same = same_refl l; len = refl; order = omega arith; fits = omega arith; zeros = λ i q. absurd (omega arith); ones = λ i q r. absurd (omega arith) }

module _ (F : ℕ) (of : ℕ → ℕ) (p : ℕ) (before after : List ℕ) (low end : ℕ) (g : Parting F of p before after low end) where
  -- bit 0: the entry stays
  pub parting_low : low < end → bit_at F (of (get_or after low 0)) p ≡ 0 → Parting F of p before after (low + 1) end
  parting_low lt z =
      record { same = g.same; len = g.len; order = omega arith; fits = g.fits; zeros = below_more _ low g.zeros z; ones = g.ones }

  -- bit 1: it changes places with the last one not looked at
  pub parting_high : low < end → (bit_at F (of (get_or after low 0)) p ≡ 0 → ⊥)
      → Parting F of p before (set (set after low (get_or after (end - 1) 0)) (end - 1) (get_or after low 0)) low (end - 1)
  parting_high lt z =
      let o : ℕ = get_or after (end - 1) 0 in
      let b : ℕ = get_or after low 0 in
      let f = g.fits in
      let n : length (set (set after low o) (end - 1) b) ≡ length after = simp length-set in
      let one : bit_at F (of b) p ≡ 1 = omega (arith, bit_below F (of b) p) in
      record {
        same = same_trans (set (set after low o) (end - 1) b) after before (same_swap after low (end - 1) (omega arith) (omega arith)) g.same;
        len = n ∙ g.len;
        order = omega arith;
        fits = omega arith;
        zeros = λ i q. rw (get_or-set_other (set after low o) (end - 1) i b 0 (λ r. omega arith)) (rw (get_or-set_other after low i o 0 (λ r. omega arith)) (g.zeros i q));
        ones = λ i q r. ⊎_elim
            (λ d. rw (← d) (rw (get_or-set_same (set after low o) (end - 1) b 0 (simp length-set (omega arith))) one))
            (λ d. rw (get_or-set_other (set after low o) (end - 1) i b 0 (λ r. omega arith)) (rw (get_or-set_other after low i o 0 (λ r. omega arith)) (g.ones i (omega arith) (omega arith))))
            (eq-or-lt_of_le q);
      }

  pub parting_end : end ≤ low → Parted F of p before after low
  parting_end le =
      let o = g.order in
      let f = g.fits in
      record { same = g.same; fits = omega arith; low = g.zeros; high = λ i q r. g.ones i (omega arith) r }

-- the entry looked at is a block
pub parting_block : (F : ℕ) (sigs : List ℕ) (p : ℕ) (before after : List ℕ) (low end : ℕ) → Parting F (signature_of sigs) p before after low end
    → low < end → Blocks (length sigs) before → (1 ≤ get_or after low 0) × (get_or after low 0 ≤ length sigs)
unfolding Blocks
parting_block F sigs p before after low end g lt h =
    let f = g.fits in
    blocks_same (length sigs) before after (same_sym after before g.same) h low (omega arith)
