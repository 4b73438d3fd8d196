-- The mask of tested positions and the edges taken, two numbers, stand for the path from the root: a position is untested where the
-- mask has 0, and a signature agrees with the path where its masked bits are the edges. One more edge, left or right, keeps it so.
-- Assumes nothing.
use Prim.Native.Nat.{ℕ, ◌-◌, ◌^◌, ◌≤◌, ◌<◌, min}
use native.Mathlib.Nat.{lt_of_le_of_lt}
use native.Mathlib.Decide.{ℕ_discrete}
use native.Mathlib.Omega.{arith}
use mathlib.Core.Path.{◌≡◌, sym, ◌∙◌, ap, subst}
use mathlib.Core.Logic.{◌≢◌, ◌↔◌}
use mathlib.Core.List.{List, [], ◌∷◌}
use lib.Bits.{bit_and, bit_or, and_zero_r, or_lt, and_le_r}
use lib.Pow.{pow_pos}
use Rattle.model.specs.Signature.{bit_at}
use Rattle.model.specs.Tree.{Edge, edge, Untested, Agrees}
use Rattle.model.proofs.Bits.{bit_below}
use Rattle.signature.proofs.Bits.{bit_of_and, bit_of_or, bit_zero, bit_one_here, bit_one_elsewhere, bit_one_fits, bits_equal}
use Rattle.audit.specs.Audit.{Tested, passed_by, untested_all}

-- t stands for the path
pub record Carried (F : ℕ) (path : List Edge) (t : Tested) : Type 0 where
  mask_fits : t.mask < 2 ^ F
  edges_fit : t.edges < 2 ^ F
  within : (j : ℕ) → 1 ≤ j → j ≤ F → bit_at F t.edges j ≤ bit_at F t.mask j
  pub clear : (p : ℕ) → 1 ≤ p → p ≤ F → (bit_at F t.mask p ≡ 0) ↔ Untested p path
  pub agree : (s : ℕ) → (bit_and s t.mask ≡ t.edges) ↔ Agrees F s path

pub carried_root : (F : ℕ) → Carried F [] untested_all
carried_root F = record {
  mask_fits = pow_pos F;
  edges_fit = pow_pos F;
  within = λ j a b. omega (arith, bit_zero F j);
  clear = λ p a b. ((λ x. tt), λ x. bit_zero F p);
  agree = λ s. ((λ x. tt), λ x. and_zero_r s);
}

-- an edge d at position p as a number x: its bit at p is d, and it has no other
pub record EdgeIs (F p d x : ℕ) : Type 0 where
  bit : d ≤ 1
  fits : x < 2 ^ F
  here : bit_at F x p ≡ d
  elsewhere : (j : ℕ) → j ≤ F → j ≢ p → bit_at F x j ≡ 0

pub left_edge : (F p : ℕ) → EdgeIs F p 0 0
left_edge F p = record { bit = omega arith; fits = pow_pos F; here = bit_zero F p; elsewhere = λ j h ne. bit_zero F j }

pub right_edge : (F p : ℕ) → 1 ≤ p → p ≤ F → EdgeIs F p 1 (2 ^ (F - p))
right_edge F p lo hi =
    record { bit = omega arith; fits = bit_one_fits F p lo hi; here = bit_one_here F p; elsewhere = λ j h ne. bit_one_elsewhere F p j hi h ne }

module _ {F : ℕ} {path : List Edge} {t : Tested} (c : Carried F path t) (p : ℕ) (lo : 1 ≤ p) (hi : p ≤ F) (new : Untested p path) {d x : ℕ} (k : EdgeIs F p d x) where
  -- the new mask and the new edges: at p, and elsewhere
  mask_here : bit_at F (bit_or t.mask (2 ^ (F - p))) p ≡ 1
  mask_here = omega (arith, bit_of_or F t.mask (2 ^ (F - p)) p, bit_one_here F p, bit_below F t.mask p)

  mask_there : (j : ℕ) → j ≤ F → j ≢ p → bit_at F (bit_or t.mask (2 ^ (F - p))) j ≡ bit_at F t.mask j
  mask_there j h ne = omega (arith, bit_of_or F t.mask (2 ^ (F - p)) j, bit_one_elsewhere F p j hi h ne)

  edges_here : bit_at F (bit_or t.edges x) p ≡ d
  edges_here =
      let z : bit_at F t.mask p ≡ 0 = (c.clear p lo hi).1 new in
      omega (arith, bit_of_or F t.edges x p, k.here, c.within p lo hi)

  edges_there : (j : ℕ) → j ≤ F → j ≢ p → bit_at F (bit_or t.edges x) j ≡ bit_at F t.edges j
  edges_there j h ne = omega (arith, bit_of_or F t.edges x j, k.elsewhere j h ne)

  within' : (j : ℕ) → 1 ≤ j → j ≤ F → bit_at F (bit_or t.edges x) j ≤ bit_at F (bit_or t.mask (2 ^ (F - p))) j
  within' j a b = go (ℕ_discrete j p)
    where
      go : Dec (j ≡ p) → bit_at F (bit_or t.edges x) j ≤ bit_at F (bit_or t.mask (2 ^ (F - p))) j
      go (yes q) = subst (λ (y : ℕ). bit_at F (bit_or t.edges x) y ≤ bit_at F (bit_or t.mask (2 ^ (F - p))) y) (sym q) (omega (arith, mask_here, edges_here, k.bit))
      go (no ne) = omega (arith, mask_there j b ne, edges_there j b ne, c.within j a b)

  clear_to : (q : ℕ) → 1 ≤ q → q ≤ F → bit_at F (bit_or t.mask (2 ^ (F - p))) q ≡ 0 → Untested q (edge p d ∷ path)
  clear_to q a b z = go (ℕ_discrete q p)
    where
      go : Dec (q ≡ p) → (q ≢ p) × Untested q path
      go (yes i) = absurd (omega (arith, mask_here, subst (λ (y : ℕ). bit_at F (bit_or t.mask (2 ^ (F - p))) y ≡ 0) i z))
      go (no ne) = (ne, (c.clear q a b).0 (sym (mask_there q b ne) ∙ z))

  agree_to : (s : ℕ) → bit_and s (bit_or t.mask (2 ^ (F - p))) ≡ bit_or t.edges x → Agrees F s (edge p d ∷ path)
  agree_to s y = (mine, (c.agree s).0 (bits_equal F (bit_and s t.mask) t.edges (lt_of_le_of_lt (and_le_r s t.mask) c.mask_fits) c.edges_fit (λ j a b. go j a b (ℕ_discrete j p))))
    where
      bits : (j : ℕ) → min (bit_at F s j) (bit_at F (bit_or t.mask (2 ^ (F - p))) j) ≡ bit_at F (bit_or t.edges x) j
      bits j = sym (bit_of_and F s (bit_or t.mask (2 ^ (F - p))) j) ∙ ap (λ (n : ℕ). bit_at F n j) y

      mine : bit_at F s p ≡ d
      mine = omega (arith, bits p, mask_here, edges_here, bit_below F s p)

      go : (j : ℕ) → 1 ≤ j → j ≤ F → Dec (j ≡ p) → bit_at F (bit_and s t.mask) j ≡ bit_at F t.edges j
      go j a b (yes i) =
          let z : bit_at F t.mask j ≡ 0 = (c.clear j a b).1 (subst (λ (n : ℕ). Untested n path) (sym i) new) in
          omega (arith, bit_of_and F s t.mask j, z, c.within j a b)
      go j a b (no ne) = omega (arith, bit_of_and F s t.mask j, bits j, mask_there j b ne, edges_there j b ne)

  mask_fits' : bit_or t.mask (2 ^ (F - p)) < 2 ^ F
  mask_fits' = or_lt F t.mask (2 ^ (F - p)) c.mask_fits (bit_one_fits F p lo hi)

  agree_from : (s : ℕ) → Agrees F s (edge p d ∷ path) → bit_and s (bit_or t.mask (2 ^ (F - p))) ≡ bit_or t.edges x
  agree_from s y =
      bits_equal F (bit_and s (bit_or t.mask (2 ^ (F - p)))) (bit_or t.edges x) (lt_of_le_of_lt (and_le_r s _) mask_fits') (or_lt F t.edges x c.edges_fit k.fits)
      (λ j a b. go j a b (ℕ_discrete j p))
    where
      old : (j : ℕ) → min (bit_at F s j) (bit_at F t.mask j) ≡ bit_at F t.edges j
      old j = sym (bit_of_and F s t.mask j) ∙ ap (λ (n : ℕ). bit_at F n j) ((c.agree s).1 y.1)

      mine : bit_at F (bit_and s (bit_or t.mask (2 ^ (F - p)))) p ≡ bit_at F (bit_or t.edges x) p
      mine = omega (arith, bit_of_and F s (bit_or t.mask (2 ^ (F - p))) p, mask_here, edges_here, y.0, k.bit)

      go : (j : ℕ) → 1 ≤ j → j ≤ F → Dec (j ≡ p) → bit_at F (bit_and s (bit_or t.mask (2 ^ (F - p)))) j ≡ bit_at F (bit_or t.edges x) j
      go j a b (yes i) = subst (λ (n : ℕ). bit_at F (bit_and s (bit_or t.mask (2 ^ (F - p)))) n ≡ bit_at F (bit_or t.edges x) n) (sym i) mine
      go j a b (no ne) = omega (arith, bit_of_and F s (bit_or t.mask (2 ^ (F - p))) j, old j, mask_there j b ne, edges_there j b ne)

  -- one edge further
  pub carried_edge : Carried F (edge p d ∷ path) (passed_by t (2 ^ (F - p)) x)
  carried_edge = record {
    mask_fits = mask_fits';
    edges_fit = or_lt F t.edges x c.edges_fit k.fits;
    within = within';
    clear = λ q a b. (clear_to q a b, λ u. mask_there q b u.0 ∙ (c.clear q a b).1 u.1);
    agree = λ s. (agree_to s, agree_from s);
  }
