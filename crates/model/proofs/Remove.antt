-- Taking a leaf out of a proper tree leaves a proper tree without it: the sibling that takes the parent's place loses one edge of
-- its path, and agrees with the others.
-- Assumes nothing.
use Prim.Native.Nat.{ℕ, ◌+◌}
use native.Mathlib.Omega.{arith}
use mathlib.Core.Path.{◌≡◌, refl, sym, ◌∙◌, ap}
use mathlib.Core.Logic.{◌⊎◌, inl, inr, ⊎_elim}
use mathlib.Core.Bool.{Bool, true, false}
use mathlib.Core.List.Memᴰ
use mathlib.Core.List.{List, [], ◌∷◌, ◌++◌, Memᴰ}
use lib.Dec.{eqb}
use borrow.Author.Tests.{eq-eqb}
use Rattle.model.specs.Signature.{bit_at}
use Rattle.model.specs.Tree.{Tree, nothing, leaf, node, join, remove, signatures, Edge, edge, Agrees, Untested}
use Rattle.model.proofs.Bits.{bit_cases}
use Rattle.model.proofs.Members.{total, total_append, Same}
use Rattle.model.proofs.Trees.{Below, Proper, left_bit, right_bit, no_leaf}

-- a path without one of its edges
pub drop_agrees : (F s : ℕ) (ds : List Edge) (e : Edge) (es : List Edge) → Agrees F s (ds ++ e ∷ es) → Agrees F s (ds ++ es)
drop_agrees F s [] (edge x y) es a = a.1
drop_agrees F s (edge x y ∷ ds) e es a = (a.0, drop_agrees F s ds e es a.1)

pub drop_untested : (q : ℕ) (ds : List Edge) (e : Edge) (es : List Edge) → Untested q (ds ++ e ∷ es) → Untested q (ds ++ es)
drop_untested q [] (edge x y) es u = u.1
drop_untested q (edge x y ∷ ds) e es u = (u.0, drop_untested q ds e es u.1)

raise : (F : ℕ) (ds es : List Edge) (p e : ℕ) (t : Tree) → Below F (ds ++ (edge p e ∷ es)) t → Below F (ds ++ es) t
raise F ds es p e nothing f = f
raise F ds es p e (leaf s) f = drop_agrees F s ds (edge p e) es f
raise F ds es p e (node q l r) f = (f.0, f.1, drop_untested q ds (edge p e) es f.2, raise F (edge q 0 ∷ ds) es p e l f.3, raise F (edge q 1 ∷ ds) es p e r f.4)

-- a node of which a side may be gone
gone_left : (p : ℕ) (r x : Tree) → x ≡ nothing → join p x r ≡ r
unfolding join
gone_left p r x e = ap (λ (y : Tree). join p y r) e

gone_right : (p : ℕ) (l x : Tree) → x ≡ nothing → join p l x ≡ l
unfolding join
gone_right p l x e = ap (join p l) e ∙ alone l
  where
    alone : (t : Tree) → join p t nothing ≡ t
    alone nothing = refl
    alone (leaf a) = refl
    alone (node q l r) = refl

join_node : (F : ℕ) (ds es : List Edge) (p : ℕ) (l r : Tree) → Below F ds l → Below F es r → join p l r ≡ node p l r
unfolding join
join_node F ds es p nothing r f g = absurd f
join_node F ds es p (leaf a) nothing f g = absurd g
join_node F ds es p (leaf a) (leaf b) f g = refl
join_node F ds es p (leaf a) (node q l r) f g = refl
join_node F ds es p (node q l r) nothing f g = absurd g
join_node F ds es p (node q l r) (leaf b) f g = refl
join_node F ds es p (node q l r) (node q' l' r') f g = refl

join_leaves : (f : ℕ → ℕ) (p : ℕ) (l r : Tree) → total f (signatures (join p l r)) ≡ total f (signatures l) + total f (signatures r)
unfolding join signatures
join_leaves f p nothing r = omega arith
join_leaves f p (leaf a) nothing = omega arith
join_leaves f p (leaf a) (leaf b) = omega arith
join_leaves f p (leaf a) (node q l r) = omega arith
join_leaves f p (node q l r) nothing = omega arith
join_leaves f p (node q l r) (leaf b) = total_append f (signatures l ++ signatures r) (b ∷ [])
join_leaves f p (node q l r) (node q' l' r') = total_append f (signatures l ++ signatures r) (signatures l' ++ signatures r')

module _ (F s : ℕ) where
  remove_left : (p : ℕ) (l r : Tree) → bit_at F s p ≡ 0 → remove F s (node p l r) ≡ join p (remove F s l) r
  unfolding remove
  remove_left p l r e = rw (e, remove)

  remove_right : (p : ℕ) (l r : Tree) → bit_at F s p ≡ 1 → remove F s (node p l r) ≡ join p l (remove F s r)
  unfolding remove
  remove_right p l r e = rw (e, remove)

  abbrev Rest : List Edge → Tree → Type 0
  Rest es t = (t ≡ nothing) ⊎ Below F es t

  remove_below : (es : List Edge) (t : Tree) → Below F es t → Rest es (remove F s t)
  unfolding remove
  remove_below es nothing f = absurd f
  remove_below es (leaf a) f = go (eqb a s) refl
    where
      go : (b : Bool) → eqb a s ≡ b → Rest es (remove F s (leaf a))
      go true e = inl (rw (e, remove))
      go false e = let h : remove F s (leaf a) ≡ leaf a = rw (e, remove) in inr (rw h f)
  remove_below es (node p l r) f =
      ⊎_elim
      (λ e. rw (remove_left p l r e) (⊎_elim (λ z. rw (gone_left p r (remove F s l) z) (inr (raise F [] es p 1 r f.4))) (λ g. rw (join_node F (edge p 0 ∷ es) (edge p 1 ∷ es) p (remove F s l) r g f.4) (inr (f.0, f.1, f.2, g, f.4))) (remove_below (edge p 0 ∷ es) l f.3)))
      (λ e. rw (remove_right p l r e) (⊎_elim (λ z. rw (gone_right p l (remove F s r) z) (inr (raise F [] es p 0 l f.3))) (λ g. rw (join_node F (edge p 0 ∷ es) (edge p 1 ∷ es) p l (remove F s r) f.3 g) (inr (f.0, f.1, f.2, f.3, g))) (remove_below (edge p 1 ∷ es) r f.4)))
      (bit_cases F s p)

  pub remove_proper : (t : Tree) → Proper F t → Proper F (remove F s t)
  unfolding remove
  remove_proper t (inl e) = inl (rw e)
  remove_proper t (inr f) = remove_below [] t f

  leaves_below : (es : List Edge) (t : Tree) → Below F es t → Memᴰ s (signatures t) → Same (signatures t) (s ∷ signatures (remove F s t))
  unfolding remove signatures
  leaves_below es nothing b m f = absurd b
  leaves_below es (leaf a) b m f = ⊎_elim (λ e. rw (eq-eqb a s (sym e), remove) (omega (arith, ap f e))) (λ n. absurd (Memᴰ.not-nil n)) (Memᴰ.cases_cons m)
  leaves_below es (node p l r) b m f =
      ⊎_elim
      (λ n. rw (remove_left p l r (left_bit F es p l r b s n)) (omega (arith, total_append f (signatures l) (signatures r), join_leaves f p (remove F s l) r, leaves_below (edge p 0 ∷ es) l b.3 n f)))
      (λ n. rw (remove_right p l r (right_bit F es p l r b s n)) (omega (arith, total_append f (signatures l) (signatures r), join_leaves f p l (remove F s r), leaves_below (edge p 1 ∷ es) r b.4 n f)))
      (Memᴰ.append_cases (signatures l) m)

  -- one leaf less
  pub remove_leaves : (t : Tree) → Proper F t → Memᴰ s (signatures t) → Same (signatures t) (s ∷ signatures (remove F s t))
  remove_leaves t (inl e) m = absurd (no_leaf F t e s m)
  remove_leaves t (inr b) m = leaves_below [] t b m
