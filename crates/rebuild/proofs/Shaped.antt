-- The shape that Rebuild writes of a group of heads: the links spell it, it is placed, since both sides of a split have some and differ
-- at its position, its nodes are numbered in order, and every chain's blocks stand in it. Each by induction on the splits.
-- Assumes nothing.
use Prim.Native.Nat.{ℕ, zero, suc, ◌+◌, ◌-◌, ◌≤◌}
use native.Mathlib.Omega.{arith}
use mathlib.Core.Path.{◌≡◌, refl, sym, ◌∙◌, ap, ap₂, subst}
use mathlib.Core.Logic.{◌⊎◌, inl, inr}
use mathlib.Core.List.Memᴰ
use mathlib.Core.List.{List, [], ◌∷◌, ◌++◌, Memᴰ}
use lib.ListN.{length}
use Rattle.model.specs.Basics.{up_from}
use Rattle.model.specs.Signature.{bit_at}
use Rattle.model.specs.Tree.{Edge, edge, Agrees}
use Rattle.model.specs.Build.{best_position}
use Rattle.model.specs.Tables.{position_at, left_of, right_of, signature_of}
use Rattle.model.specs.Sound.{Shape, tip, fork, Holds, nodes, blocks, Placed}
use Rattle.model.specs.Rebuild.{group_reference, group_nodes}
use Rattle.model.proofs.Bits.{bit_cases}
use Rattle.model.proofs.Best.{best_position_is}
use Rattle.model.proofs.Members.{some_in, total_append, Same}
use Rattle.model.proofs.Trees.{untested}
use Rattle.model.proofs.Sides.{side_member, side_has, sides_total}
use Rattle.tables.proofs.Counts.{heads}
use Rattle.split.specs.Split.{Apart, Below}
use Rattle.split.proofs.Nodes.{half, nodes_step, nodes_length, apart_half, group_induction}
use Rattle.tables.proofs.Spelled.{Spells, spells_append, node_spelled}
use Rattle.rebuild.proofs.Heads.{Heads}

-- the shape of the group g from node i on; ch gives each head's chain, m bounds the depth
unfoldable pub shape_of : ℕ → List ℕ → (ℕ → List ℕ) → ℕ → List ℕ → ℕ → Shape
shape_of F sigs ch zero g i = tip 0 []
shape_of F sigs ch (suc m) [] i = tip 0 []
shape_of F sigs ch (suc m) (b ∷ []) i = tip b (ch b)
shape_of F sigs ch (suc m) (b ∷ c ∷ g) i =
    fork i (best_position F (signature_of sigs) (b ∷ c ∷ g))
    (shape_of F sigs ch m (half F sigs 0 (b ∷ c ∷ g)) (i + 1))
    (shape_of F sigs ch m (half F sigs 1 (b ∷ c ∷ g)) (i + length (half F sigs 0 (b ∷ c ∷ g))))

up_from_append : (a b i : ℕ) → up_from a i ++ up_from b (i + a) ≡ up_from (a + b) i
unfolding up_from
up_from_append zero b i = let e : i + 0 ≡ i = omega arith in let q : 0 + b ≡ b = omega arith in rw (e, q) refl
up_from_append (suc a) b i =
    let e : i + suc a ≡ suc i + a = omega arith in
    let q : suc a + b ≡ suc (a + b) = omega arith in
    rw (e, q) (ap (λ (l : List ℕ). i ∷ l) (up_from_append a b (suc i)))

reference_many : (B : ℕ) (g : List ℕ) (i : ℕ) → 2 ≤ length g → group_reference B g i ≡ B + i
reference_many B [] i h = absurd (omega arith)
reference_many B (b ∷ []) i h = absurd (omega arith)
reference_many B (b ∷ c ∷ g) i h = refl

module _ (F : ℕ) (sigs : List ℕ) (ch : ℕ → List ℕ) (below : Below F sigs) where
  abbrev B : ℕ
  B = length sigs

  abbrev best : List ℕ → ℕ
  best g = best_position F (signature_of sigs) g

  abbrev left : ℕ → List ℕ → ℕ → Shape
  left m g i = shape_of F sigs ch m (half F sigs 0 g) (i + 1)

  abbrev right : ℕ → List ℕ → ℕ → Shape
  right m g i = shape_of F sigs ch m (half F sigs 1 g) (i + length (half F sigs 0 g))

  pub shape_step : (m : ℕ) (g : List ℕ) (i : ℕ) → 2 ≤ length g → shape_of F sigs ch (suc m) g i ≡ fork i (best_position F (signature_of sigs) g)
      (shape_of F sigs ch m (half F sigs 0 g) (i + 1)) (shape_of F sigs ch m (half F sigs 1 g) (i + length (half F sigs 0 g)))
  unfolding shape_of
  shape_step m [] i h = absurd (omega arith)
  shape_step m (b ∷ []) i h = absurd (omega arith)
  shape_step m (b ∷ c ∷ g) i h = refl

  -- a member of a half is one of the group, with that bit at the best position
  pub half_member : (e : ℕ) (g : List ℕ) (b : ℕ) → Memᴰ b (half F sigs e g) → Memᴰ b g × (bit_at F (signature_of sigs b) (best_position F (signature_of sigs) g) ≡ e)
  half_member e g = side_member F (signature_of sigs) (best g) e g

  -- the nodes, in the order a node, all of its left side, then its right
  abbrev Numbered : ℕ → List ℕ → ℕ → Type 0
  Numbered m g i = nodes (shape_of F sigs ch m g i) ≡ up_from (length g - 1) i

  pub nodes_order : (m : ℕ) (g : List ℕ) (i : ℕ) → Apart sigs g → 1 ≤ length g → length g ≤ m → nodes (shape_of F sigs ch m g i) ≡ up_from (length g - 1) i
  unfolding shape_of up_from
  nodes_order = group_induction F sigs below Numbered (λ m x i. refl) (λ m g i two z tl tr.
      let nl : ℕ = length (half F sigs 0 g) in
      let nr : ℕ = length (half F sigs 1 g) in
      let zl = z.left in
      let zr = z.right in
      let zb = z.both in
      let e : i + nl ≡ suc i + (nl - 1) = omega arith in
      let o : i + 1 ≡ suc i = omega arith in
      let q : length g - 1 ≡ suc ((nl - 1) + (nr - 1)) = omega arith in
      ap nodes (shape_step m g i two)
      ∙ ap (λ (l : List ℕ). i ∷ l) (ap₂ ◌++◌ (tl ∙ ap (up_from (nl - 1)) o) (tr ∙ ap (up_from (nr - 1)) e) ∙ up_from_append (nl - 1) (nr - 1) (suc i))
      ∙ ap (λ (k : ℕ). up_from k i) (sym q))

  -- the heads stay
  abbrev Stays : ℕ → List ℕ → ℕ → Type 0
  Stays m g i = Same (heads (shape_of F sigs ch m g i)) g

  pub heads_stay : (m : ℕ) (g : List ℕ) (i : ℕ) → Apart sigs g → 1 ≤ length g → length g ≤ m → Same (heads (shape_of F sigs ch m g i)) g
  unfolding shape_of
  heads_stay = group_induction F sigs below Stays (λ m x i f. refl) (λ m g i two z tl tr f.
      rw (shape_step m g i two) (total_append f (heads (left m g i)) (heads (right m g i)) ∙ omega (arith, tl f, tr f, sides_total F (signature_of sigs) (best g) f g)))

  -- every chain's blocks stand in it
  abbrev Has : ℕ → List ℕ → ℕ → Type 0
  Has m g i = (b c : ℕ) → Memᴰ b g → Memᴰ c (b ∷ ch b) → Memᴰ c (blocks (shape_of F sigs ch m g i))

  pub blocks_all : (m : ℕ) (g : List ℕ) (i : ℕ) → Apart sigs g → 1 ≤ length g → length g ≤ m → Has m g i
  unfolding shape_of
  blocks_all = group_induction F sigs below Has (λ m x i b c u v. only x b c v (Memᴰ.cases_cons u)) (λ m g i two z tl tr b c u v.
      rw (shape_step m g i two) (either m g i b c u v (bit_cases F (signature_of sigs b) (best g)) tl tr))
    where
      only : (x b c : ℕ) → Memᴰ c (b ∷ ch b) → (b ≡ x) ⊎ Memᴰ b [] → Memᴰ c (x ∷ ch x)
      only x b c v (inl e) = subst (λ (y : ℕ). Memᴰ c (y ∷ ch y)) e v
      only x b c v (inr k) = absurd (Memᴰ.not-nil k)

      either : (m : ℕ) (g : List ℕ) (i b c : ℕ) → Memᴰ b g → Memᴰ c (b ∷ ch b) → (bit_at F (signature_of sigs b) (best g) ≡ 0) ⊎ (bit_at F (signature_of sigs b) (best g) ≡ 1)
          → Has m (half F sigs 0 g) (i + 1) → Has m (half F sigs 1 g) (i + length (half F sigs 0 g)) → Memᴰ c (blocks (left m g i) ++ blocks (right m g i))
      either m g i b c u v (inl e) tl tr = Memᴰ.append_left (blocks (right m g i)) (tl b c (side_has F (signature_of sigs) (best g) 0 g b u e) v)
      either m g i b c u v (inr e) tl tr = Memᴰ.append_right (blocks (left m g i)) (tr b c (side_has F (signature_of sigs) (best g) 1 g b u e) v)

  module _ (held : List ℕ) where
    -- the heads of a group have their chains in the links
    abbrev pub Heading : List ℕ → Type 0
    Heading g = (b : ℕ) → Memᴰ b g → Heads (length sigs) sigs held b (ch b)

    half_heading : (e : ℕ) (g : List ℕ) → Heading g → Heading (half F sigs e g)
    half_heading e g H b m = H b (half_member e g b m).0

    -- links that spell the group's words from node i on hold the shape
    abbrev Spelt : ℕ → List ℕ → ℕ → Type 0
    Spelt m g i = Apart sigs g → length g ≤ m → Heading g → 1 ≤ i → i + length g ≤ length sigs + 1 → Spells held (position_at (length sigs) i) (group_nodes m F sigs g i)
        → (r : ℕ) → r ≡ group_reference (length sigs) g i → Holds (length sigs) held r (shape_of F sigs ch m g i)

    pub holds_shape : (m : ℕ) (g : List ℕ) (i : ℕ) → Apart sigs g → 1 ≤ length g → length g ≤ m → Spelt m g i
    unfolding shape_of
    holds_shape = group_induction F sigs below Spelt
        (λ m x i d n H lo hi s r q. let h = H x (Memᴰ.head refl) in (q, h.from, h.to, h.chain))
        (λ m g i two z tl tr d n H lo hi s r q.
        let gl : List ℕ = half F sigs 0 g in
        let gr : List ℕ = half F sigs 1 g in
        let zl = z.left in
        let zr = z.right in
        let zb = z.both in
        let wl : List ℕ = group_nodes m F sigs gl (i + 1) in
        let wr : List ℕ = group_nodes m F sigs gr (i + length gl) in
        let dl = apart_half F sigs 0 g (omega arith) d in
        let dr = apart_half F sigs 1 g (omega arith) d in
        let k = node_spelled B held i (best g) (group_reference B gl (i + 1)) (group_reference B gr (i + length gl)) (wl ++ wr) (rw (nodes_step F sigs m g i two) at s) in
        let w = spells_append held (position_at B (i + 1)) wl wr k.3 in
        let a : position_at B (i + 1) + length wl ≡ position_at B (i + length gl) = omega (arith, nodes_length F sigs below m gl (i + 1) dl (omega arith)) in
        rw (shape_step m g i two) (
          q ∙ reference_many B g i two,
          lo,
          omega arith,
          k.0,
          tl dl (omega arith) (half_heading 0 g H) (omega arith) (omega arith) w.0 (left_of B held i) k.1,
          tr dr (omega arith) (half_heading 1 g H) (omega arith) (omega arith) (rw a at w.1) (right_of B held i) k.2,
        ))

    -- it is placed below a path with which all its heads agree
    abbrev Set : ℕ → List ℕ → ℕ → Type 0
    Set m g i = (path : List Edge) → Heading g → ((b : ℕ) → Memᴰ b g → Agrees F (signature_of sigs b) path) → Placed F sigs held path (shape_of F sigs ch m g i)

    agrees_half : (e : ℕ) (g : List ℕ) (path : List Edge) → ((b : ℕ) → Memᴰ b g → Agrees F (signature_of sigs b) path)
        → (b : ℕ) → Memᴰ b (half F sigs e g) → Agrees F (signature_of sigs b) (edge (best g) e ∷ path)
    agrees_half e g path a b m = let q = half_member e g b m in (q.1, a b q.0)

    pub placed_shape : 1 ≤ F → (m : ℕ) (g : List ℕ) (i : ℕ) → Apart sigs g → 1 ≤ length g → length g ≤ m → Set m g i
    unfolding shape_of
    placed_shape width = group_induction F sigs below Set
        (λ m x i path H a. (a x (Memᴰ.head refl), (H x (Memᴰ.head refl)).alike))
        (λ m g i two z tl tr path H a.
        let w = best_position_is F (signature_of sigs) g width in
        let u = some_in (half F sigs 0 g) z.left in
        let v = some_in (half F sigs 1 g) z.right in
        let mu = half_member 0 g u.0 u.1 in
        let mv = half_member 1 g v.0 v.1 in
        let bu = mu.1 in
        let bv = mv.1 in
        rw (shape_step m g i two) (
          w.from,
          w.to,
          untested F (signature_of sigs u.0) (signature_of sigs v.0) (best g) path (a u.0 mu.0) (a v.0 mv.0) (λ e. omega arith),
          tl (edge (best g) 0 ∷ path) (half_heading 0 g H) (agrees_half 0 g path a),
          tr (edge (best g) 1 ∷ path) (half_heading 1 g H) (agrees_half 1 g path a),
        ))
