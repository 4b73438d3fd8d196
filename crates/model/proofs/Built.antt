-- A rebuild of distinct signatures below 2 ^ F is a proper tree with these leaves: two of them differ at some position, so the best
-- position has an entry on each side, and no position tested above has, since there all agree.
-- Assumes nothing.
use Prim.Native.Nat.{ℕ, zero, suc, ◌^◌, ◌≤◌, ◌<◌, min}
use native.Mathlib.Omega.{arith}
use mathlib.Core.Path.{◌≡◌, refl, sym, ◌∙◌}
use mathlib.Core.Logic.{◌⊎◌, inl, inr, ◌≢◌}
use mathlib.Core.List.{List, [], ◌∷◌, Memᴰ}
use lib.Dec.{eqb}
use lib.ListN.{length}
use Rattle.model.specs.Signature.{bit_at, first_difference}
use Rattle.model.specs.Tree.{Tree, signatures, Edge, edge, Agrees}
use Rattle.model.specs.Build.{side, smaller, best_position, build_within, build}
use Rattle.model.proofs.Bits.{bit_cases}
use Rattle.model.proofs.Pigeon.{Distinct}
use Rattle.model.proofs.Members.{some_in, total_append, Same}
use Rattle.model.proofs.Keep.{keep_distinct}
use Rattle.model.proofs.Sides.{side_member, side_has, sides_total, sides_length}
use Rattle.model.proofs.Trees.{Below, Proper, untested}
use Rattle.model.proofs.Best.{best_position_is}
use Rattle.model.proofs.Differ.{first_differs}

in_some : (l : List ℕ) (x : ℕ) → Memᴰ x l → 1 ≤ length l
in_some [] x m = absurd (mathlib.Core.List.Memᴰ.not-nil m)
in_some (y ∷ l) x m = omega arith

module _ (F : ℕ) where
  -- the side of a split with bit e
  abbrev half : ℕ → ℕ → List ℕ → List ℕ
  half p e = side F (λ s. s) p e

  -- the best position of two or more distinct signatures has an entry on each side
  record Parts (l : List ℕ) : Type 0 where
    from : 1 ≤ best_position F (λ s. s) l
    to : best_position F (λ s. s) l ≤ F
    some : (e : ℕ) → e ≤ 1 → 1 ≤ length (half (best_position F (λ s. s) l) e l)

  sides_fill : (l : List ℕ) (s u : ℕ) → Memᴰ s l → Memᴰ u l → (p : ℕ) → bit_at F s p ≢ bit_at F u p → 1 ≤ smaller F (λ x. x) p l
  unfolding smaller
  sides_fill l s u m n p d = go (bit_cases F s p) (bit_cases F u p)
    where
      go : (bit_at F s p ≡ 0) ⊎ (bit_at F s p ≡ 1) → (bit_at F u p ≡ 0) ⊎ (bit_at F u p ≡ 1) → 1 ≤ min (length (half p 0 l)) (length (half p 1 l))
      go (inl x) (inl y) = absurd (d (x ∙ sym y))
      go (inl x) (inr y) = omega (arith, in_some _ _ (side_has F (λ x. x) p 0 l s m x), in_some _ _ (side_has F (λ x. x) p 1 l u n y))
      go (inr x) (inl y) = omega (arith, in_some _ _ (side_has F (λ x. x) p 0 l u n y), in_some _ _ (side_has F (λ x. x) p 1 l s m x))
      go (inr x) (inr y) = absurd (d (x ∙ sym y))

  parts : (l : List ℕ) (s u : ℕ) → Memᴰ s l → Memᴰ u l → s ≢ u → s < 2 ^ F → u < 2 ^ F → Parts l
  unfolding smaller
  parts l s u m n d hs hu =
      let x = first_differs F s u hs hu d in
      let b = best_position_is F (λ y. y) l (omega (arith, x.from, x.to)) in
      let few = sides_fill l s u m n (first_difference F s u) x.apart in
      let most : smaller F (λ y. y) (first_difference F s u) l ≤ smaller F (λ y. y) (best_position F (λ y. y) l) l = b.most (first_difference F s u) x.from x.to in
      let all : 1 ≤ smaller F (λ y. y) (best_position F (λ y. y) l) l = omega arith in
      record { from = b.from; to = b.to; some = λ e h. go e h all }
    where
      go : (e : ℕ) → e ≤ 1 → 1 ≤ min (length (half (best_position F (λ y. y) l) 0 l)) (length (half (best_position F (λ y. y) l) 1 l)) → 1 ≤ length (half (best_position F (λ y. y) l) e l)
      go zero h a = omega arith
      go (suc zero) h a = omega arith
      go (suc (suc e)) h a = absurd (omega arith)

  -- proper below a path, with these leaves
  abbrev Makes : List Edge → List ℕ → Tree → Type 0
  Makes es ss t = Below F es t × Same (signatures t) ss

  within_proper : (n : ℕ) (es : List Edge) (ss : List ℕ) → length ss ≤ n → 1 ≤ length ss → Distinct ss → ((s : ℕ) → Memᴰ s ss → (s < 2 ^ F) × Agrees F s es) → Makes es ss (build_within n F ss)
  unfolding build_within signatures
  within_proper zero es ss h k d a = absurd (omega arith)
  within_proper (suc n) es [] h k d a = absurd (omega arith)
  within_proper (suc n) es (s ∷ []) h k d a = ((a s (mathlib.Core.List.Memᴰ.head refl)).1, λ f. refl)
  within_proper (suc n) es (s ∷ u ∷ ss) h k d a =
      let l : List ℕ = s ∷ u ∷ ss in
      let p : ℕ = best_position F (λ x. x) l in
      let ms : Memᴰ s l = mathlib.Core.List.Memᴰ.head refl in
      let mu : Memᴰ u l = mathlib.Core.List.Memᴰ.tail (mathlib.Core.List.Memᴰ.head refl) in
      let q = parts l s u ms mu (λ e. d.0 (mathlib.Core.List.Memᴰ.head e)) (a s ms).0 (a u mu).0 in
      let z = some_in (half p 0 l) (q.some 0 (omega arith)) in
      let o = some_in (half p 1 l) (q.some 1 (omega arith)) in
      let iz = side_member F (λ x. x) p 0 l z.0 z.1 in
      let io = side_member F (λ x. x) p 1 l o.0 o.1 in
      let long = sides_length F (λ x. x) p l in
      let many0 = q.some 0 (omega arith) in
      let many1 = q.some 1 (omega arith) in
      let new = untested F z.0 o.0 p es (a z.0 iz.0).1 (a o.0 io.0).1 (λ e. omega (arith, iz.1, io.1)) in
      let agree : (e x : ℕ) → Memᴰ x (half p e l) → (x < 2 ^ F) × Agrees F x (edge p e ∷ es) = λ e x m. let i = side_member F (λ x. x) p e l x m in ((a x i.0).0, (i.1, (a x i.0).1)) in
      let left = within_proper n (edge p 0 ∷ es) (half p 0 l) (omega arith) many0 (keep_distinct (λ x. eqb (bit_at F x p) 0) l d) (agree 0) in
      let right = within_proper n (edge p 1 ∷ es) (half p 1 l) (omega arith) many1 (keep_distinct (λ x. eqb (bit_at F x p) 1) l d) (agree 1) in
      ((q.from, q.to, new, left.0, right.0), λ f. omega (arith, total_append f (signatures (build_within n F (half p 0 l))) (signatures (build_within n F (half p 1 l))), left.1 f, right.1 f, sides_total F (λ x. x) p f l))

  pub build_proper : (ss : List ℕ) → Distinct ss → ((s : ℕ) → Memᴰ s ss → s < 2 ^ F) → Proper F (build F ss) × Same (signatures (build F ss)) ss
  unfolding build_within signatures
  build_proper [] d a = (inl refl, λ f. refl)
  build_proper (s ∷ ss) d a = let x = within_proper (length (s ∷ ss)) [] (s ∷ ss) (omega arith) (omega arith) d (λ u m. (a u m, tt)) in (inr x.0, x.1)
