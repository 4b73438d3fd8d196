-- Filing a signature into a proper tree gives a proper tree with its leaf more: the walk by its bits ends at a leaf whose path it
-- agrees with, so the first position where the two differ is not tested above.
-- Assumes nothing.
use Prim.Native.Nat.{ℕ, ◌^◌, ◌<◌}
use native.Mathlib.Decide.{ℕ_discrete}
use native.Mathlib.Omega.{arith}
use mathlib.Core.Path.{◌≡◌, refl, sym, ◌∙◌}
use mathlib.Core.Logic.{inl, inr, ⊎_elim, ◌≢◌}
use mathlib.Core.List.Memᴰ
use mathlib.Core.List.{List, [], ◌∷◌, Memᴰ}
use borrow.Author.Tests.{eq-eqb, ne_eqb}
use Rattle.model.specs.Signature.{bit_at, first_difference}
use Rattle.model.specs.Tree.{Tree, nothing, leaf, node, split, insert, signatures, Edge, edge, Agrees, Untested}
use Rattle.model.proofs.Bits.{bit_cases}
use Rattle.model.proofs.Differ.{first_differs}
use Rattle.model.proofs.Members.{total_append, Same}
use Rattle.model.proofs.Trees.{Below, Proper, untested}

-- the leaves are below 2 ^ F
abbrev Small : ℕ → Tree → Type 0
Small F t = (a : ℕ) → Memᴰ a (signatures t) → a < 2 ^ F

module _ (F s : ℕ) where
  insert_left : (p : ℕ) (l r : Tree) → bit_at F s p ≡ 0 → insert F s (node p l r) ≡ node p (insert F s l) r
  unfolding insert
  insert_left p l r e = rw (e, insert)

  insert_right : (p : ℕ) (l r : Tree) → bit_at F s p ≡ 1 → insert F s (node p l r) ≡ node p l (insert F s r)
  unfolding insert
  insert_right p l r e = rw (e, insert)

  -- a leaf of another signature is split, by the bit of s at the first difference
  insert_before : (a : ℕ) → a ≢ s → bit_at F s (first_difference F s a) ≡ 0 → insert F s (leaf a) ≡ node (first_difference F s a) (leaf s) (leaf a)
  unfolding insert split
  insert_before a n e = rw (ne_eqb a s n, insert, e, split)

  insert_after : (a : ℕ) → a ≢ s → bit_at F s (first_difference F s a) ≡ 1 → insert F s (leaf a) ≡ node (first_difference F s a) (leaf a) (leaf s)
  unfolding insert split
  insert_after a n e = rw (ne_eqb a s n, insert, e, split)

  pub insert_same : (a : ℕ) → a ≡ s → insert F s (leaf a) ≡ leaf a
  unfolding insert
  insert_same a e = rw (eq-eqb a s e, insert)

  module _ (small : s < 2 ^ F) where
    insert_below : (es : List Edge) (t : Tree) → Below F es t → Agrees F s es → Small F t → Below F es (insert F s t)
    unfolding signatures
    insert_below es nothing f g k = absurd f
    insert_below es (leaf a) f g k = go (ℕ_discrete a s)
      where
        go : Dec (a ≡ s) → Below F es (insert F s (leaf a))
        go (yes e) = rw (insert_same a e) f
        go (no n) =
            let d = first_differs F s a small (k a (Memᴰ.head refl)) (λ e. n (sym e)) in
            let u : Untested (first_difference F s a) es = untested F s a (first_difference F s a) es g f d.apart in
            ⊎_elim
            (λ e. ⊎_elim (λ h. absurd (d.apart (e ∙ sym h))) (λ h. rw (insert_before a n e) (d.from, d.to, u, (e, g), (h, f))) (bit_cases F a (first_difference F s a)))
            (λ e. ⊎_elim (λ h. rw (insert_after a n e) (d.from, d.to, u, (h, f), (e, g))) (λ h. absurd (d.apart (e ∙ sym h))) (bit_cases F a (first_difference F s a)))
            (bit_cases F s (first_difference F s a))
    insert_below es (node p l r) f g k =
        ⊎_elim (λ e. rw (insert_left p l r e) (f.0, f.1, f.2, insert_below (edge p 0 ∷ es) l f.3 (e, g) (λ a m. k a (Memᴰ.append_left (signatures r) m)), f.4))
        (λ e. rw (insert_right p l r e) (f.0, f.1, f.2, f.3, insert_below (edge p 1 ∷ es) r f.4 (e, g) (λ a m. k a (Memᴰ.append_right (signatures l) m)))) (bit_cases F s p)

    pub insert_proper : (t : Tree) → Proper F t → Small F t → Proper F (insert F s t)
    unfolding insert
    insert_proper t (inl e) k = rw e (inr tt)
    insert_proper t (inr f) k = inr (insert_below [] t f tt k)

  -- one leaf more, where none has the signature
  pub insert_leaves : (t : Tree) → (Memᴰ s (signatures t) → ⊥) → Same (signatures (insert F s t)) (s ∷ signatures t)
  unfolding signatures insert
  insert_leaves nothing n f = refl
  insert_leaves (leaf a) n f =
      let d : a ≢ s = λ e. n (Memᴰ.head (sym e)) in
      ⊎_elim (λ e. rw (insert_before a d e)) (λ e. rw (insert_after a d e) (omega arith)) (bit_cases F s (first_difference F s a))
  insert_leaves (node p l r) n f =
      ⊎_elim
      (λ e. rw (insert_left p l r e) (omega (arith, total_append f (signatures (insert F s l)) (signatures r), total_append f (signatures l) (signatures r), insert_leaves l (λ m. n (Memᴰ.append_left (signatures r) m)) f)))
      (λ e. rw (insert_right p l r e) (omega (arith, total_append f (signatures l) (signatures (insert F s r)), total_append f (signatures l) (signatures r), insert_leaves r (λ m. n (Memᴰ.append_right (signatures l) m)) f)))
      (bit_cases F s p)
