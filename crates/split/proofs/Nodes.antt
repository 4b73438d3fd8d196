-- The words of a group's nodes: three for each but one of its blocks, whatever the order of the group, and stored from a node's
-- address on they are that node's words, then the left side's, then the right's.
-- Assumes nothing.
use Prim.Native.Nat.{ℕ, zero, suc, ◌+◌, ◌-◌, ◌*◌, ◌≤◌, ◌<◌}
use native.Mathlib.Omega.{arith}
use mathlib.Core.Path.{◌≡◌, refl, sym}
use mathlib.Core.List.{List, [], ◌∷◌, ◌++◌}
use lib.ListN.{length, get_or, length-append}
use Rattle.model.specs.Build.{side, best_position}
use Rattle.model.specs.Tables.{signature_of}
use Rattle.model.specs.Rebuild.{group_reference, group_nodes}
use Rattle.model.proofs.Members.{Same, same_length}
use Rattle.model.proofs.Sides.{sides_length}
use Rattle.model.proofs.Build.{side_same, best_same}
use Rattle.split.specs.Split.{Apart, Below, reference_to}
use Rattle.split.proofs.Best.{splits, apart_side}

-- the reference to a group, by its size and its first block
pub reference_by : (B : ℕ) (g : List ℕ) (i : ℕ) → group_reference B g i ≡ reference_to (length g) (get_or g 0 0) (B + i)
unfolding reference_to
reference_by B [] i = refl
reference_by B (b ∷ []) i = refl
reference_by B (b ∷ c ∷ g) i = refl

pub reference_same : (B : ℕ) (a b : List ℕ) (i : ℕ) → Same a b → group_reference B a i ≡ group_reference B b i
reference_same B [] [] i h = refl
reference_same B [] (y ∷ b) i h = absurd (omega (arith, same_length [] (y ∷ b) h))
reference_same B (x ∷ a) [] i h = absurd (omega (arith, same_length (x ∷ a) [] h))
reference_same B (x ∷ []) (y ∷ []) i h = omega (arith, h (λ n. n))
reference_same B (x ∷ []) (y ∷ z ∷ b) i h = absurd (omega (arith, same_length (x ∷ []) (y ∷ z ∷ b) h))
reference_same B (x ∷ w ∷ a) (y ∷ []) i h = absurd (omega (arith, same_length (x ∷ w ∷ a) (y ∷ []) h))
reference_same B (x ∷ w ∷ a) (y ∷ z ∷ b) i h = refl

-- the side e of a group at its best position
abbrev pub half : ℕ → List ℕ → ℕ → List ℕ → List ℕ
half F sigs e g = side F (signature_of sigs) (best_position F (signature_of sigs) g) e g

module _ (F : ℕ) (sigs : List ℕ) where
  pub apart_half : (e : ℕ) (g : List ℕ) → e ≤ 1 → Apart sigs g → Apart sigs (half F sigs e g)
  apart_half e g = apart_side F sigs (best_position F (signature_of sigs) g) e g

  half_same : (e : ℕ) (a b : List ℕ) → Same a b → Same (half F sigs e a) (half F sigs e b)
  half_same e a b s = rw (best_same F (signature_of sigs) a b s) (side_same F (signature_of sigs) (best_position F (signature_of sigs) b) e a b s)

  -- one split
  pub nodes_step : (m : ℕ) (g : List ℕ) (i : ℕ) → 2 ≤ length g
      → group_nodes (suc m) F sigs g i
      ≡ best_position F (signature_of sigs) g ∷ group_reference (length sigs) (half F sigs 0 g) (i + 1) ∷ group_reference (length sigs) (half F sigs 1 g) (i + length (half F sigs 0 g))
      ∷ group_nodes m F sigs (half F sigs 0 g) (i + 1) ++ group_nodes m F sigs (half F sigs 1 g) (i + length (half F sigs 0 g))
  unfolding group_nodes
  nodes_step m [] i h = absurd (omega arith)
  nodes_step m (b ∷ []) i h = absurd (omega arith)
  nodes_step m (b ∷ c ∷ g) i h = refl

  -- a group of no or one block has no node
  pub nodes_few : (m : ℕ) (g : List ℕ) (i : ℕ) → length g ≤ 1 → group_nodes m F sigs g i ≡ []
  unfolding group_nodes
  nodes_few zero g i h = refl
  nodes_few (suc m) [] i h = refl
  nodes_few (suc m) (b ∷ []) i h = refl
  nodes_few (suc m) (b ∷ c ∷ g) i h = absurd (omega arith)

-- a group's sizes where it is split
pub record Sizes (F : ℕ) (sigs g : List ℕ) : Type 0 where
  pub left : 0 < length (half F sigs 0 g)
  pub right : 0 < length (half F sigs 1 g)
  pub both : length (half F sigs 0 g) + length (half F sigs 1 g) ≡ length g

module _ (F : ℕ) (sigs : List ℕ) (below : Below F sigs) where
  pub sizes : (g : List ℕ) → Apart sigs g → 2 ≤ length g → Sizes F sigs g
  sizes g d h = let s = splits F sigs below g d h in record { left = s.0; right = s.1; both = sides_length F (signature_of sigs) (best_position F (signature_of sigs) g) g }

  -- what holds of one block, and of a group if of its halves, holds of every group of blocks with nodes from i on
  pub group_induction : (P : ℕ → List ℕ → ℕ → Type 0) → ((m x i : ℕ) → P (suc m) (x ∷ []) i)
      → ((m : ℕ) (g : List ℕ) (i : ℕ) → 2 ≤ length g → Sizes F sigs g → P m (half F sigs 0 g) (i + 1) → P m (half F sigs 1 g) (i + length (half F sigs 0 g)) → P (suc m) g i)
      → (m : ℕ) (g : List ℕ) (i : ℕ) → Apart sigs g → 1 ≤ length g → length g ≤ m → P m g i
  group_induction P one more zero g i d s n = absurd (omega arith)
  group_induction P one more (suc m) [] i d s n = absurd (omega arith)
  group_induction P one more (suc m) (x ∷ []) i d s n = one m x i
  group_induction P one more (suc m) (x ∷ y ∷ t) i d s n =
      let g : List ℕ = x ∷ y ∷ t in
      let two : 2 ≤ length g = omega arith in
      let z = sizes g d two in
      let zl = z.left in
      let zr = z.right in
      let zb = z.both in
      more m g i two z
      (group_induction P one more m (half F sigs 0 g) (i + 1) (apart_half F sigs 0 g (omega arith) d) (omega arith) (omega arith))
      (group_induction P one more m (half F sigs 1 g) (i + length (half F sigs 0 g)) (apart_half F sigs 1 g (omega arith) d) (omega arith) (omega arith))

  pub nodes_length : (m : ℕ) (g : List ℕ) (i : ℕ) → Apart sigs g → length g ≤ m → length (group_nodes m F sigs g i) ≡ 3 * (length g - 1)
  unfolding group_nodes
  nodes_length zero g i d n = omega arith
  nodes_length (suc m) [] i d n = refl
  nodes_length (suc m) (b ∷ []) i d n = refl
  nodes_length (suc m) (b ∷ c ∷ t) i d n =
      let g : List ℕ = b ∷ c ∷ t in
      let s = sizes g d (omega arith) in
      let sl = s.left in
      let sr = s.right in
      let sb = s.both in
      let a = nodes_length m (half F sigs 0 g) (i + 1) (apart_half F sigs 0 g (omega arith) d) (omega arith) in
      let z = nodes_length m (half F sigs 1 g) (i + length (half F sigs 0 g)) (apart_half F sigs 1 g (omega arith) d) (omega arith) in
      omega (arith, length-append (group_nodes m F sigs (half F sigs 0 g) (i + 1)) (group_nodes m F sigs (half F sigs 1 g) (i + length (half F sigs 0 g))))

  -- the words depend neither on the order nor on the bound of the depth, where that is enough
  pub nodes_same : (m n : ℕ) (a b : List ℕ) (i : ℕ) → Apart sigs a → Apart sigs b → Same a b → length a ≤ m → length b ≤ n → group_nodes m F sigs a i ≡ group_nodes n F sigs b i
  unfolding group_nodes
  nodes_same zero n a b i da db s p q = sym (nodes_few F sigs n b i (omega (arith, same_length a b s)))
  nodes_same (suc m) zero a b i da db s p q = nodes_few F sigs (suc m) a i (omega (arith, same_length a b s))
  nodes_same (suc m) (suc n) [] b i da db s p q = sym (nodes_few F sigs (suc n) b i (omega (arith, same_length [] b s)))
  nodes_same (suc m) (suc n) (x ∷ []) b i da db s p q = sym (nodes_few F sigs (suc n) b i (omega (arith, same_length (x ∷ []) b s)))
  nodes_same (suc m) (suc n) (x ∷ y ∷ t) b i da db s p q =
      let a : List ℕ = x ∷ y ∷ t in
      let e = same_length a b s in
      let two : 2 ≤ length b = omega arith in
      let ua = sizes a da (omega arith) in
      let ub = sizes b db two in
      let ual = ua.left in
      let uar = ua.right in
      let uab = ua.both in
      let ubl = ub.left in
      let ubr = ub.right in
      let ubb = ub.both in
      let s0 = half_same F sigs 0 a b s in
      let s1 = half_same F sigs 1 a b s in
      let e0 : length (half F sigs 0 a) ≡ length (half F sigs 0 b) = same_length (half F sigs 0 a) (half F sigs 0 b) s0 in
      let e1 : length (half F sigs 1 a) ≡ length (half F sigs 1 b) = same_length (half F sigs 1 a) (half F sigs 1 b) s1 in
      let ep = best_same F (signature_of sigs) a b s in
      let r0 = reference_same (length sigs) (half F sigs 0 a) (half F sigs 0 b) (i + 1) s0 in
      let r1 = reference_same (length sigs) (half F sigs 1 a) (half F sigs 1 b) (i + length (half F sigs 0 b)) s1 in
      let w0 = nodes_same m n (half F sigs 0 a) (half F sigs 0 b) (i + 1) (apart_half F sigs 0 a (omega arith) da) (apart_half F sigs 0 b (omega arith) db) s0 (omega arith) (omega arith) in
      let w1 = nodes_same m n (half F sigs 1 a) (half F sigs 1 b) (i + length (half F sigs 0 b)) (apart_half F sigs 1 a (omega arith) da) (apart_half F sigs 1 b (omega arith) db) s1 (omega arith) (omega arith) in
      let st = nodes_step F sigs n b i two in
      cc
