-- A leaf is compared exactly when at each node on its path whose position is set in the query its edge is 1: a path's edges are 0 or
-- 1, so an edge that is not 0 is 1.
-- Assumes nothing.
use Prim.Native.Nat.{ℕ}
use native.Mathlib.Omega.{arith}
use mathlib.Core.Path.{◌≡◌, refl, sym, ◌∙◌, subst}
use mathlib.Core.Logic.{⊎_elim, ◌↔◌}
use mathlib.Core.Bool.{Bool, true, false}
use mathlib.Core.List.{List, [], ◌∷◌, Memᴰ}
use Rattle.model.specs.Basics.{has}
use Rattle.model.specs.Signature.{bit_at}
use Rattle.model.specs.Tree.{Tree, nothing, leaf, node, signatures, Edge, edge, path, no_zero_edge, compared}
use Rattle.model.proofs.Bits.{bit_cases}
use Rattle.model.proofs.Keep.{keep_in, in_keep}
use Rattle.model.proofs.Trees.{Proper}
use Rattle.model.proofs.Compared.{bar_open, bar_set, compared_reached}

module _ (F q : ℕ) where
  -- at each node on the path whose position is set in q, the edge is 1
  abbrev pub OneWhereSet : List Edge → Type 0
  OneWhereSet [] = Unit {0}
  OneWhereSet (edge p e ∷ es) = (bit_at F q p ≡ 1 → e ≡ 1) × OneWhereSet es

  abbrev Exact : List Edge → Type 0
  Exact es = (no_zero_edge F q es ≡ true) ↔ OneWhereSet es

  -- an edge of a position that is not set passes
  open_exact : (p e : ℕ) (es : List Edge) → bit_at F q p ≡ 0 → Exact es → Exact (edge p e ∷ es)
  open_exact p e es z ih = ((λ h. ((λ o. absurd (omega arith)), ih.0 (sym (bar_open F q p e es z) ∙ h))), λ h. bar_open F q p e es z ∙ ih.1 h.1)

  left_exact : (p : ℕ) (es : List Edge) → Exact es → Exact (edge p 0 ∷ es)
  left_exact p es ih = ⊎_elim (λ z. open_exact p 0 es z ih) (λ o. ((λ h. absurd (barred (sym (bar_set F q p 0 es o) ∙ h))), λ h. absurd (omega (arith, h.0 o)))) (bit_cases F q p)
    where
      barred : false ≡ true → ⊥
      barred h = let z : ◌≡◌ {A = ℕ} 0 1 = cc in omega arith

  right_exact : (p : ℕ) (es : List Edge) → Exact es → Exact (edge p 1 ∷ es)
  right_exact p es ih =
      ⊎_elim (λ z. open_exact p 1 es z ih) (λ o. ((λ h. ((λ _. refl), ih.0 (sym (bar_set F q p 1 es o) ∙ h))), λ h. bar_set F q p 1 es o ∙ ih.1 h.1)) (bit_cases F q p)

  no_zero_edge_exact : (s : ℕ) (t : Tree) → Exact (path s t)
  unfolding path no_zero_edge
  no_zero_edge_exact s nothing = ((λ _. tt), λ _. refl)
  no_zero_edge_exact s (leaf a) = ((λ _. tt), λ _. refl)
  no_zero_edge_exact s (node p l r) = go (has s (signatures l)) refl (no_zero_edge_exact s l) (no_zero_edge_exact s r)
    where
      go : (b : Bool) → has s (signatures l) ≡ b → Exact (path s l) → Exact (path s r) → Exact (path s (node p l r))
      go true e a b = let h : path s (node p l r) ≡ edge p 0 ∷ path s l = rw (e, path) in subst Exact (sym h) (left_exact p (path s l) a)
      go false e a b = let h : path s (node p l r) ≡ edge p 1 ∷ path s r = rw (e, path) in subst Exact (sym h) (right_exact p (path s r) b)

  pub compared_exact : (t : Tree) → Proper F t → (s : ℕ) → Memᴰ s (compared F q t) ↔ (Memᴰ s (signatures t) × OneWhereSet (path s t))
  compared_exact t f s = (
    (λ m. let r = keep_in (λ x. no_zero_edge F q (path x t)) (signatures t) s (subst (Memᴰ s) (compared_reached F q t f) m) in (r.0, (no_zero_edge_exact s t).0 r.1)),
    λ h. subst (Memᴰ s) (sym (compared_reached F q t f)) (in_keep (λ x. no_zero_edge F q (path x t)) (signatures t) s h.0 ((no_zero_edge_exact s t).1 h.1)),
  )
