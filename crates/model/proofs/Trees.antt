-- Proper plain trees: what is known of one from its positions alone. A leaf agrees with its edges, so the two sides of a node have
-- no leaf in common, and a path's positions are distinct, so no path is longer than the width.
-- Assumes nothing.
use Prim.Native.Nat.{ℕ, suc, ◌+◌, ◌≤◌, max}
use native.Mathlib.Omega.{arith}
use mathlib.Core.Path.{◌≡◌, sym, ◌∙◌, ap, subst}
use mathlib.Core.Logic.{◌⊎◌, inl, inr, ⊎_elim, ◌≢◌}
use mathlib.Core.List.Memᴰ
use mathlib.Core.List.{List, [], ◌∷◌, Memᴰ}
use lib.ListN.{length}
use borrow.Author.Tests.{eq-eqb}
use Rattle.model.specs.Basics.{up_from}
use Rattle.model.specs.Signature.{bit_at}
use Rattle.model.specs.Tree.{Tree, nothing, leaf, node, insert, signatures, Edge, edge, Agrees, Untested}
use Rattle.model.proofs.Pigeon.{Distinct, distinct_append, distinct_fits}
use Rattle.model.proofs.Keep.{up_from_length, up_from_has}

-- below a path, each node tests a position 1 to F not tested above it, and each leaf's signature agrees with every edge
abbrev pub Below : ℕ → List Edge → Tree → Type 0
Below F es nothing = ⊥
Below F es (leaf s) = Agrees F s es
Below F es (node p l r) = (1 ≤ p) × (p ≤ F) × Untested p es × Below F (edge p 0 ∷ es) l × Below F (edge p 1 ∷ es) r

-- a whole tree: nothing, or such a tree below no edge
abbrev pub Proper : ℕ → Tree → Type 0
Proper F t = (t ≡ nothing) ⊎ Below F [] t

-- the nodes of the longest path
abbrev pub height : Tree → ℕ
height nothing = 0
height (leaf s) = 0
height (node p l r) = suc (max (height l) (height r))

-- the positions on a path
abbrev pub positions : List Edge → List ℕ
positions [] = []
positions (edge p e ∷ es) = p ∷ positions es

-- they are distinct and 1 to F
abbrev pub Tested : ℕ → List Edge → Type 0
Tested F es = Distinct (positions es) × ((p : ℕ) → Memᴰ p (positions es) → Memᴰ p (up_from F 1))

pub tested_none : (F : ℕ) → Tested F []
tested_none F = (tt, λ p m. absurd (Memᴰ.not-nil m))

untested_new : (p : ℕ) (es : List Edge) → Untested p es → Memᴰ p (positions es) → ⊥
untested_new p [] u m = Memᴰ.not-nil m
untested_new p (edge x e ∷ es) u m = go (Memᴰ.cases_cons m) (untested_new p es u.1)
  where
    go : (p ≡ x) ⊎ Memᴰ p (positions es) → (Memᴰ p (positions es) → ⊥) → ⊥
    go (inl h) ih = u.0 h
    go (inr n) ih = ih n

pub tested_more : (F p e : ℕ) (es : List Edge) → 1 ≤ p → p ≤ F → Untested p es → Tested F es → Tested F (edge p e ∷ es)
tested_more F p e es a b u d = ((untested_new p es u, d.0), λ x m. go x (Memᴰ.cases_cons m))
  where
    go : (x : ℕ) → (x ≡ p) ⊎ Memᴰ x (positions es) → Memᴰ x (up_from F 1)
    go x (inl h) = up_from_has F 1 x (omega arith) (omega arith)
    go x (inr n) = d.1 x n

-- no position of a path is one where two signatures that agree with it differ
pub untested : (F s u p : ℕ) (es : List Edge) → Agrees F s es → Agrees F u es → bit_at F s p ≢ bit_at F u p → Untested p es
untested F s u p [] g h n = tt
untested F s u p (edge x e ∷ es) g h n = ((λ i. n (ap (bit_at F s) i ∙ g.0 ∙ sym h.0 ∙ ap (bit_at F u) (sym i))), untested F s u p es g.1 h.1 n)

module _ (F : ℕ) where
  -- a path has at most F nodes
  height_below : (es : List Edge) (t : Tree) → Below F es t → Tested F es → height t + length (positions es) ≤ F
  height_below es nothing f d = absurd f
  height_below es (leaf s) f d = omega (arith, distinct_fits (positions es) (up_from F 1) d.0 d.1, up_from_length F 1)
  height_below es (node p l r) f d =
      let a = height_below (edge p 0 ∷ es) l f.3 (tested_more F p 0 es f.0 f.1 f.2 d) in
      let b = height_below (edge p 1 ∷ es) r f.4 (tested_more F p 1 es f.0 f.1 f.2 d) in
      omega arith

  pub height_fits : (t : Tree) → Proper F t → height t ≤ F
  height_fits t (inl e) = rw e (omega arith)
  height_fits t (inr f) = omega (arith, height_below [] t f (tested_none F))

  -- every leaf's signature agrees with the edges above
  pub leaf_agrees : (es : List Edge) (t : Tree) → Below F es t → (s : ℕ) → Memᴰ s (signatures t) → Agrees F s es
  unfolding signatures
  leaf_agrees es nothing f s m = absurd f
  leaf_agrees es (leaf a) f s m = go (Memᴰ.cases_cons m)
    where
      go : (s ≡ a) ⊎ Memᴰ s [] → Agrees F s es
      go (inl e) = subst (λ (x : ℕ). Agrees F x es) (sym e) f
      go (inr n) = absurd (Memᴰ.not-nil n)
  leaf_agrees es (node p l r) f s m =
      ⊎_elim (λ n. (leaf_agrees (edge p 0 ∷ es) l f.3 s n).1) (λ n. (leaf_agrees (edge p 1 ∷ es) r f.4 s n).1) (Memᴰ.append_cases (signatures l) m)

  pub left_bit : (es : List Edge) (p : ℕ) (l r : Tree) → Below F es (node p l r) → (s : ℕ) → Memᴰ s (signatures l) → bit_at F s p ≡ 0
  left_bit es p l r f s m = (leaf_agrees (edge p 0 ∷ es) l f.3 s m).0

  pub right_bit : (es : List Edge) (p : ℕ) (l r : Tree) → Below F es (node p l r) → (s : ℕ) → Memᴰ s (signatures r) → bit_at F s p ≡ 1
  right_bit es p l r f s m = (leaf_agrees (edge p 1 ∷ es) r f.4 s m).0

  pub sides_apart : (es : List Edge) (p : ℕ) (l r : Tree) → Below F es (node p l r) → (s : ℕ) → Memᴰ s (signatures l) → Memᴰ s (signatures r) → ⊥
  sides_apart es p l r f s m n = omega (arith, sym (left_bit es p l r f s m) ∙ right_bit es p l r f s n)

  -- the leaves are distinct
  below_distinct : (es : List Edge) (t : Tree) → Below F es t → Distinct (signatures t)
  unfolding signatures
  below_distinct es nothing f = tt
  below_distinct es (leaf a) f = (Memᴰ.not-nil, tt)
  below_distinct es (node p l r) f =
      distinct_append (signatures l) (signatures r) (below_distinct (edge p 0 ∷ es) l f.3) (below_distinct (edge p 1 ∷ es) r f.4) (sides_apart es p l r f)

  pub leaves_distinct : (t : Tree) → Proper F t → Distinct (signatures t)
  unfolding signatures
  leaves_distinct t (inl e) = subst (λ (x : Tree). Distinct (signatures x)) (sym e) tt
  leaves_distinct t (inr f) = below_distinct [] t f

  -- an empty tree has no leaf
  pub no_leaf : (t : Tree) → t ≡ nothing → (s : ℕ) → Memᴰ s (signatures t) → ⊥
  unfolding signatures
  no_leaf t e s m = Memᴰ.not-nil (subst (λ (x : Tree). Memᴰ s (signatures x)) e m)

  -- filing a signature that a leaf has leaves the tree
  insert_below : (es : List Edge) (t : Tree) → Below F es t → (s : ℕ) → Memᴰ s (signatures t) → insert F s t ≡ t
  unfolding signatures insert
  insert_below es nothing f s m = absurd f
  insert_below es (leaf a) f s m = go (Memᴰ.cases_cons m)
    where
      go : (s ≡ a) ⊎ Memᴰ s [] → insert F s (leaf a) ≡ leaf a
      go (inl e) = rw (eq-eqb a s (sym e), insert)
      go (inr n) = absurd (Memᴰ.not-nil n)
  insert_below es (node p l r) f s m =
      ⊎_elim (λ n. rw (left_bit es p l r f s n, insert) (ap (λ (x : Tree). node p x r) (insert_below (edge p 0 ∷ es) l f.3 s n)))
      (λ n. rw (right_bit es p l r f s n, insert) (ap (λ (x : Tree). node p l x) (insert_below (edge p 1 ∷ es) r f.4 s n))) (Memᴰ.append_cases (signatures l) m)

  pub insert_stored : (t : Tree) → Proper F t → (s : ℕ) → Memᴰ s (signatures t) → insert F s t ≡ t
  insert_stored t (inl e) s m = absurd (no_leaf t e s m)
  insert_stored t (inr f) s m = insert_below [] t f s m
