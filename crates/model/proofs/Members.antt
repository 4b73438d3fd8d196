-- Members of a list, membership as a test, each element once, and sums over lists with the same elements.
-- Assumes nothing.
use Prim.Native.Nat.{ℕ, ◌+◌, ◌≤◌}
use native.Mathlib.Omega.{arith}
use mathlib.Core.Path.{◌≡◌, refl, sym, ◌∙◌, ap}
use mathlib.Core.Logic.{◌⊎◌, inl, inr}
use mathlib.Core.Bool.{Bool, true, false}
use mathlib.Core.List.Memᴰ
use mathlib.Core.List.{List, [], ◌∷◌, ◌++◌, Memᴰ}
use lib.Dec.{eqb}
use lib.ListN.{length}
use borrow.Author.Tests.{eqb-true, eqb-false}
use Rattle.model.proofs.Pigeon.{Distinct, distinct_fits, without, without_keeps, without_in, without_gone}
use Rattle.model.specs.Basics.{has, once}

-- a list that is not empty has an element, and one of a single element has that
pub some_in : (l : List ℕ) → 1 ≤ length l → (x : ℕ) × Memᴰ x l
some_in [] h = absurd (omega arith)
some_in (x ∷ l) h = (x, Memᴰ.head refl)

pub only : (x y : ℕ) → (y ≡ x) ⊎ Memᴰ y [] → y ≡ x
only x y (inl e) = e
only x y (inr m) = absurd (Memᴰ.not-nil m)

pub has_in : (s : ℕ) (l : List ℕ) → has s l ≡ true → Memᴰ s l
unfolding has
has_in s [] e = let z : ◌≡◌ {A = ℕ} 0 1 = cc in absurd (omega arith)
has_in s (x ∷ xs) e = go (eqb x s) refl (has_in s xs)
  where
    go : (t : Bool) → eqb x s ≡ t → (has s xs ≡ true → Memᴰ s xs) → Memᴰ s (x ∷ xs)
    go true h ih = Memᴰ.head (sym (eqb-true x s h))
    go false h ih = Memᴰ.tail (ih (rw (h, has) at e))

pub in_has : (s : ℕ) (l : List ℕ) → Memᴰ s l → has s l ≡ true
unfolding has
in_has s [] m = absurd (Memᴰ.not-nil m)
in_has s (x ∷ xs) m = go (eqb x s) refl (Memᴰ.cases_cons m) (in_has s xs)
  where
    go : (t : Bool) → eqb x s ≡ t → (s ≡ x) ⊎ Memᴰ s xs → (Memᴰ s xs → has s xs ≡ true) → has s (x ∷ xs) ≡ true
    go true h c ih = rw (h, has)
    go false h (inl e) ih = absurd (eqb-false x s h (sym e))
    go false h (inr n) ih = rw (h, has) (ih n)

-- the two tests agree where membership does
pub has_same : (s : ℕ) (k l : List ℕ) → (Memᴰ s k → Memᴰ s l) → (Memᴰ s l → Memᴰ s k) → has s k ≡ has s l
has_same s k l f g = go (has s k) (has s l) refl refl
  where
    go : (t u : Bool) → has s k ≡ t → has s l ≡ u → has s k ≡ has s l
    go true true e h = e ∙ sym h
    go true false e h = e ∙ sym (in_has s l (f (has_in s k e)))
    go false true e h = in_has s k (g (has_in s l h)) ∙ sym h
    go false false e h = e ∙ sym h

pub not_in : (s : ℕ) (l : List ℕ) → has s l ≡ false → Memᴰ s l → ⊥
not_in s l e m = let h = in_has s l m in let z : ◌≡◌ {A = ℕ} 0 1 = cc in omega arith

pub in_not : (s : ℕ) (l : List ℕ) → (Memᴰ s l → ⊥) → has s l ≡ false
in_not s l f = go (has s l) refl
  where
    go : (t : Bool) → has s l ≡ t → has s l ≡ false
    go true e = absurd (f (has_in s l e))
    go false e = e

-- a list with no element twice, inside one that is no longer, has all of its elements
pub full : (xs ys : List ℕ) → Distinct xs → ((x : ℕ) → Memᴰ x xs → Memᴰ x ys) → length ys ≤ length xs → (y : ℕ) → Memᴰ y ys → Memᴰ y xs
full xs ys d i h y m = go (has y xs) refl
  where
    more : (x : ℕ) → (x ≡ y) ⊎ Memᴰ x xs → Memᴰ x ys
    more x (inl e) = Memᴰ.cast e m
    more x (inr k) = i x k

    go : (t : Bool) → has y xs ≡ t → Memᴰ y xs
    go true e = has_in y xs e
    go false e = absurd (omega (arith, distinct_fits (y ∷ xs) ys (not_in y xs e, d) (λ x k. more x (Memᴰ.cases_cons k))))

pub once_in : (l : List ℕ) (s : ℕ) → Memᴰ s (once l) → Memᴰ s l
unfolding once
once_in [] s m = m
once_in (x ∷ xs) s m = go (has x xs) refl (once_in xs s)
  where
    late : (s ≡ x) ⊎ Memᴰ s (once xs) → (Memᴰ s (once xs) → Memᴰ s xs) → Memᴰ s (x ∷ xs)
    late (inl e) ih = Memᴰ.head e
    late (inr n) ih = Memᴰ.tail (ih n)

    go : (t : Bool) → has x xs ≡ t → (Memᴰ s (once xs) → Memᴰ s xs) → Memᴰ s (x ∷ xs)
    go true e ih = Memᴰ.tail (ih (rw (e, once) at m))
    go false e ih = late (Memᴰ.cases_cons (rw (e, once) at m)) ih

pub in_once : (l : List ℕ) (s : ℕ) → Memᴰ s l → Memᴰ s (once l)
unfolding once
in_once [] s m = m
in_once (x ∷ xs) s m = go (has x xs) refl (Memᴰ.cases_cons m) (in_once xs s)
  where
    go : (t : Bool) → has x xs ≡ t → (s ≡ x) ⊎ Memᴰ s xs → (Memᴰ s xs → Memᴰ s (once xs)) → Memᴰ s (once (x ∷ xs))
    go true e (inl h) ih = rw (e, once) (ih (Memᴰ.cast h (has_in x xs e)))
    go true e (inr n) ih = rw (e, once) (ih n)
    go false e (inl h) ih = rw (e, once) (Memᴰ.head h)
    go false e (inr n) ih = rw (e, once) (Memᴰ.tail (ih n))

pub once_distinct : (l : List ℕ) → Distinct (once l)
unfolding once
once_distinct [] = tt
once_distinct (x ∷ xs) = go (has x xs) refl (once_distinct xs)
  where
    go : (t : Bool) → has x xs ≡ t → Distinct (once xs) → Distinct (once (x ∷ xs))
    go true e ih = rw (e, once) ih
    go false e ih = rw (e, once) (λ m. not_in x xs e (once_in xs x m), ih)

-- the sum of f over a list
abbrev pub total : (ℕ → ℕ) → List ℕ → ℕ
total f [] = 0
total f (x ∷ l) = f x + total f l

pub total_append : (f : ℕ → ℕ) (k l : List ℕ) → total f (k ++ l) ≡ total f k + total f l
total_append f [] l = omega arith
total_append f (x ∷ k) l = omega (arith, total_append f k l)

-- the same elements, each as often
abbrev pub Same : List ℕ → List ℕ → Type 0
Same k l = (f : ℕ → ℕ) → total f k ≡ total f l

pub total_one : (l : List ℕ) → total (λ _. 1) l ≡ length l
total_one [] = refl
total_one (x ∷ l) = omega (arith, total_one l)

pub same_length : (k l : List ℕ) → Same k l → length k ≡ length l
same_length k l h = sym (total_one k) ∙ h (λ _. 1) ∙ total_one l

total_without : (f : ℕ → ℕ) {x : ℕ} {l : List ℕ} (m : Memᴰ x l) → total f l ≡ f x + total f (without m)
unfolding without
total_without f (Memᴰ.head {xs = xs} e) = ap (λ (y : ℕ). f y + total f xs) (sym e)
total_without f (Memᴰ.tail m) = omega (arith, total_without f m)

without_distinct : {x : ℕ} {l : List ℕ} (m : Memᴰ x l) → Distinct l → Distinct (without m)
unfolding without
without_distinct (Memᴰ.head e) d = d.1
without_distinct (Memᴰ.tail m) d = (λ n. d.0 (without_in m n), without_distinct m d.1)

-- two lists with no element twice and the same elements
pub same_members : (k l : List ℕ) → Distinct k → Distinct l → ((x : ℕ) → Memᴰ x k → Memᴰ x l) → ((x : ℕ) → Memᴰ x l → Memᴰ x k) → Same k l
same_members [] [] d e i j f = refl
same_members [] (y ∷ l) d e i j f = absurd (Memᴰ.not-nil (j y (Memᴰ.head refl)))
same_members (x ∷ k) l d e i j f =
    let m = i x (Memᴰ.head refl) in
    let ih = same_members k (without m) d.1 (without_distinct m e)
    (λ y n. without_keeps m (λ h. d.0 (Memᴰ.cast (sym h) n)) (i y (Memᴰ.tail n)))
    (λ y n. back m y n (Memᴰ.cases_cons (j y (without_in m n)))) f in
    omega (arith, total_without f m)
  where
    back : (m : Memᴰ x l) (y : ℕ) → Memᴰ y (without m) → (y ≡ x) ⊎ Memᴰ y k → Memᴰ y k
    back m y n (inl h) = absurd (without_gone m e (Memᴰ.cast (sym h) n))
    back m y n (inr q) = q
