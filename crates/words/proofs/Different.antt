-- The different entries of a list, one entry further on: a new one is one more, an old one is none. Whether an entry is there is
-- counted, so that arithmetic settles it.
-- Assumes nothing.
use mathlib.Core.Path.{◌≡◌, refl, sym, ap, ◌∙◌}
use mathlib.Core.Bool.{cond, not}
use mathlib.Core.List.{List, [], ◌∷◌, ◌++◌, append-nil}
use mathlib.Core.Logic.{◌≢◌}
use Prim.Native.Nat.{ℕ, suc, ◌+◌, ◌<◌, min}
use native.Mathlib.Decide.{ℕ_discrete}
use native.Mathlib.Omega.{arith}
use lib.Dec.{eqb}
use borrow.Author.Tests.{eq-eqb, ne_eqb}
use Rattle.model.specs.Basics.{keep}
use Rattle.model.specs.Words.{others, different}
use Rattle.model.proofs.Keep.{keep_yes, keep_no, keep_append}

-- how often j stands in a list: only whether this is 0 matters
unfoldable pub times : ℕ → List ℕ → ℕ
times j [] = 0
times j (i ∷ l) = cond (eqb i j) 1 0 + times j l

pub times_here : (j : ℕ) (l : List ℕ) → times j (j ∷ l) ≡ suc (times j l)
unfolding times
times_here j l = rw (eq-eqb j j refl) (omega arith)

pub times_other : (i j : ℕ) (l : List ℕ) → i ≢ j → times j (i ∷ l) ≡ times j l
unfolding times
times_other i j l h = rw (ne_eqb i j h) (omega arith)

pub others_here : (j : ℕ) (l : List ℕ) → others j (j ∷ l) ≡ others j l
others_here j l = keep_no (λ i. not (eqb i j)) j l (ap not (eq-eqb j j refl))

pub others_other : (i j : ℕ) (l : List ℕ) → i ≢ j → others j (i ∷ l) ≡ i ∷ others j l
others_other i j l h = keep_yes (λ i. not (eqb i j)) i l (ap not (ne_eqb i j h))

no_list : {A : Type 0} (j : ℕ) (l : List ℕ) → times j (j ∷ l) ≡ 0 → A
no_list j l h = absurd (omega (arith, times_here j l))

-- others j there is no j, and the others stay
times_gone : (j : ℕ) (l : List ℕ) → times j (others j l) ≡ 0
unfolding times keep
times_gone j [] = refl
times_gone j (i ∷ l) = go (times_gone j l) (ℕ_discrete i j)
  where
    go : times j (others j l) ≡ 0 → Dec (i ≡ j) → times j (others j (i ∷ l)) ≡ 0
    go ih (yes e) = ap (λ (k : ℕ). times j (others j (k ∷ l))) e ∙ ap (times j) (others_here j l) ∙ ih
    go ih (no h) = ap (times j) (others_other i j l h) ∙ times_other i j (others j l) h ∙ ih

times_stays : (i j : ℕ) (l : List ℕ) → i ≢ j → times j (others i l) ≡ times j l
unfolding times keep
times_stays i j [] h = refl
times_stays i j (k ∷ l) h = go (times_stays i j l h) (ℕ_discrete k i)
  where
    go : times j (others i l) ≡ times j l → Dec (k ≡ i) → times j (others i (k ∷ l)) ≡ times j (k ∷ l)
    go ih (yes e) =
        let h' : k ≢ j = λ f. h (sym e ∙ f) in
        ap (λ (m : ℕ). times j (others i (m ∷ l))) e ∙ ap (times j) (others_here i l) ∙ ih ∙ sym (times_other k j l h')
    go ih (no n) =
        let head : ℕ = cond (eqb k j) 1 0 in
        ap (times j) (others_other k i l n) ∙ ap (λ (m : ℕ). head + m) ih

-- each number of a list stands in its different numbers once
pub times_different : (j : ℕ) (l : List ℕ) → times j (different l) ≡ min 1 (times j l)
unfolding times different
times_different j [] = refl
times_different j (i ∷ l) = go (times_different j l) (ℕ_discrete i j)
  where
    go : times j (different l) ≡ min 1 (times j l) → Dec (i ≡ j) → times j (i ∷ others i (different l)) ≡ min 1 (times j (i ∷ l))
    go ih (yes e) =
        ap (λ (k : ℕ). times j (k ∷ others k (different l))) e
        ∙ omega (arith, times_here j (others j (different l)), times_gone j (different l), times_here j l)
        ∙ ap (λ (k : ℕ). min 1 (times j (k ∷ l))) (sym e)
    go ih (no h) =
        times_other i j (others i (different l)) h ∙ times_stays i j (different l) h ∙ ih
        ∙ ap (λ (m : ℕ). min 1 m) (sym (times_other i j l h))

others_snoc : (j : ℕ) (l : List ℕ) → others j (l ++ (j ∷ [])) ≡ others j l
unfolding keep
others_snoc j l = keep_append (λ i. not (eqb i j)) l (j ∷ []) ∙ ap (λ (r : List ℕ). others j l ++ r) (others_here j []) ∙ append-nil (others j l)

others_snoc_other : (i j : ℕ) (l : List ℕ) → j ≢ i → others i (l ++ (j ∷ [])) ≡ others i l ++ (j ∷ [])
unfolding keep
others_snoc_other i j l h = keep_append (λ k. not (eqb k i)) l (j ∷ []) ∙ ap (λ (r : List ℕ). others i l ++ r) (others_other j i [] h)

-- a position that is not among them is one more different position
pub different_new : (j : ℕ) (l : List ℕ) → times j l ≡ 0 → different (l ++ (j ∷ [])) ≡ different l ++ (j ∷ [])
unfolding different keep
different_new j [] h = refl
different_new j (i ∷ l) h = go (different_new j l) (ℕ_discrete j i)
  where
    go : (times j l ≡ 0 → different (l ++ (j ∷ [])) ≡ different l ++ (j ∷ [])) → Dec (j ≡ i)
        → i ∷ others i (different (l ++ (j ∷ []))) ≡ i ∷ (others i (different l) ++ (j ∷ []))
    go ih (yes e) = no_list j l (ap (λ (k : ℕ). times j (k ∷ l)) e ∙ h)
    go ih (no n) =
        let n' : i ≢ j = λ f. n (sym f) in
        ap (λ (r : List ℕ). i ∷ others i r) (ih (sym (times_other i j l n') ∙ h))
        ∙ ap (λ (r : List ℕ). i ∷ r) (others_snoc_other i j (different l) n)

-- a position that is among them is none
pub different_old : (j : ℕ) (l : List ℕ) → 0 < times j l → different (l ++ (j ∷ [])) ≡ different l
unfolding different times
different_old j [] h = absurd (omega arith)
different_old j (i ∷ l) h = go (different_old j l) (ℕ_discrete i j) (ℕ_discrete (times j l) 0)
  where
    go : (0 < times j l → different (l ++ (j ∷ [])) ≡ different l) → Dec (i ≡ j) → Dec (times j l ≡ 0)
        → i ∷ others i (different (l ++ (j ∷ []))) ≡ i ∷ others i (different l)
    go ih d (no n) =
        let p : 0 < times j l = omega arith in
        ap (λ (r : List ℕ). i ∷ others i r) (ih p)
    go ih (yes e) (yes z) =
        ap (λ (r : List ℕ). i ∷ others i r) (different_new j l z)
        ∙ ap (λ (k : ℕ). i ∷ others k (different l ++ (j ∷ []))) e
        ∙ ap (λ (r : List ℕ). i ∷ r) (others_snoc j (different l))
        ∙ ap (λ (k : ℕ). i ∷ others k (different l)) (sym e)
    go ih (no n) (yes z) =
        let o : times j (i ∷ l) ≡ times j l = times_other i j l n in
        absurd (omega arith)
