-- The path of each stored signature in a proper tree: it takes the side that has the leaf, which is the side of the signature's bit.
-- So the signature agrees with its path, and a second one would differ from it at the node where they part.
-- Assumes nothing.
use Prim.Native.Nat.{ℕ}
use native.Mathlib.Omega.{arith}
use mathlib.Core.Path.{◌≡◌, sym, ◌∙◌, subst}
use mathlib.Core.Logic.{◌⊎◌, inl, inr, ⊎_elim}
use mathlib.Core.List.Memᴰ
use mathlib.Core.List.{List, [], ◌∷◌, Memᴰ}
use Rattle.model.specs.Tree.{Tree, nothing, leaf, node, signatures, Edge, edge, path, Agrees}
use Rattle.model.proofs.Members.{in_has, in_not}
use Rattle.model.proofs.Trees.{Below, Proper, left_bit, right_bit, sides_apart, no_leaf}

pub path_left : (p : ℕ) (l r : Tree) (s : ℕ) → Memᴰ s (signatures l) → path s (node p l r) ≡ edge p 0 ∷ path s l
unfolding path
path_left p l r s m = rw (in_has s (signatures l) m, path)

module _ (F : ℕ) where
  pub path_right : (es : List Edge) (p : ℕ) (l r : Tree) → Below F es (node p l r) → (s : ℕ) → Memᴰ s (signatures r) → path s (node p l r) ≡ edge p 1 ∷ path s r
  unfolding path
  path_right es p l r f s m = rw (in_not s (signatures l) (λ n. sides_apart F es p l r f s n m), path)

  agrees_below : (es : List Edge) (t : Tree) → Below F es t → (s : ℕ) → Memᴰ s (signatures t) → Agrees F s (path s t)
  unfolding signatures path
  agrees_below es nothing f s m = tt
  agrees_below es (leaf a) f s m = tt
  agrees_below es (node p l r) f s m =
      ⊎_elim (λ n. subst (Agrees F s) (sym (path_left p l r s n)) (left_bit F es p l r f s n, agrees_below (edge p 0 ∷ es) l f.3 s n))
      (λ n. subst (Agrees F s) (sym (path_right es p l r f s n)) (right_bit F es p l r f s n, agrees_below (edge p 1 ∷ es) r f.4 s n)) (Memᴰ.append_cases (signatures l) m)

  only_below : (es : List Edge) (t : Tree) → Below F es t → (s u : ℕ) → Memᴰ s (signatures t) → Memᴰ u (signatures t) → Agrees F u (path s t) → u ≡ s
  unfolding signatures
  only_below es nothing f s u m n a = absurd f
  only_below es (leaf x) f s u m n a = go (Memᴰ.cases_cons m) (Memᴰ.cases_cons n)
    where
      go : (s ≡ x) ⊎ Memᴰ s [] → (u ≡ x) ⊎ Memᴰ u [] → u ≡ s
      go (inl e) (inl h) = h ∙ sym e
      go (inl e) (inr k) = absurd (Memᴰ.not-nil k)
      go (inr k) h = absurd (Memᴰ.not-nil k)
  only_below es (node p l r) f s u m n a =
      go (Memᴰ.append_cases (signatures l) m) (Memᴰ.append_cases (signatures l) n) (only_below (edge p 0 ∷ es) l f.3 s u) (only_below (edge p 1 ∷ es) r f.4 s u)
    where
      go : Memᴰ s (signatures l) ⊎ Memᴰ s (signatures r) → Memᴰ u (signatures l) ⊎ Memᴰ u (signatures r)
          → (Memᴰ s (signatures l) → Memᴰ u (signatures l) → Agrees F u (path s l) → u ≡ s)
          → (Memᴰ s (signatures r) → Memᴰ u (signatures r) → Agrees F u (path s r) → u ≡ s) → u ≡ s
      go (inl x) (inl y) g h = g x y (subst (Agrees F u) (path_left p l r s x) a).1
      go (inl x) (inr y) g h = absurd (omega (arith, sym (subst (Agrees F u) (path_left p l r s x) a).0 ∙ right_bit F es p l r f u y))
      go (inr x) (inl y) g h = absurd (omega (arith, sym (subst (Agrees F u) (path_right es p l r f s x) a).0 ∙ left_bit F es p l r f u y))
      go (inr x) (inr y) g h = h x y (subst (Agrees F u) (path_right es p l r f s x) a).1

  -- each stored signature agrees with all edges on its path
  pub path_agrees : (t : Tree) → Proper F t → (s : ℕ) → Memᴰ s (signatures t) → Agrees F s (path s t)
  path_agrees t (inl e) s m = absurd (no_leaf F t e s m)
  path_agrees t (inr f) s m = agrees_below [] t f s m

  -- and no other stored one does
  pub path_only : (t : Tree) → Proper F t → (s u : ℕ) → Memᴰ s (signatures t) → Memᴰ u (signatures t) → Agrees F u (path s t) → u ≡ s
  path_only t (inl e) s u m n a = absurd (no_leaf F t e s m)
  path_only t (inr f) s u m n a = only_below [] t f s u m n a
