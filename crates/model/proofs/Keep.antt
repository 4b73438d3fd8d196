-- The laws of `keep`, the one filter: sides of a split, zero bits and reached signatures are kept by a test. Each goes by cases on
-- the test of the first entry.
-- Assumes nothing.
use Prim.Native.Nat.{ℕ, zero, suc, ◌+◌, ◌≤◌, ◌<◌, zero-le}
use native.Mathlib.Decide.{ℕ_discrete}
use native.Mathlib.Omega.{arith}
use mathlib.Core.Path.{◌≡◌, refl, sym, ◌∙◌, ap}
use mathlib.Core.Logic.{◌⊎◌, inl, inr}
use mathlib.Core.Bool.{Bool, true, false}
use mathlib.Core.List.Memᴰ
use mathlib.Core.List.{List, [], ◌∷◌, ◌++◌, Memᴰ}
use lib.ListN.{length}
use Rattle.model.specs.Basics.{keep, up_from}
use Rattle.model.proofs.Pigeon.{Distinct}
use Rattle.model.proofs.Members.{total, Same}

-- v where the test holds, else 0
abbrev pub gate : Bool → ℕ → ℕ
gate true v = v
gate false v = 0

module _ (test : ℕ → Bool) where
  pub keep_yes : (x : ℕ) (xs : List ℕ) → test x ≡ true → keep test (x ∷ xs) ≡ x ∷ keep test xs
  unfolding keep
  keep_yes x xs e = rw (e, keep)

  pub keep_no : (x : ℕ) (xs : List ℕ) → test x ≡ false → keep test (x ∷ xs) ≡ keep test xs
  unfolding keep
  keep_no x xs e = rw (e, keep)

  pub keep_append : (k l : List ℕ) → keep test (k ++ l) ≡ keep test k ++ keep test l
  unfolding keep
  keep_append [] l = refl
  keep_append (x ∷ k) l = go (test x) refl (keep_append k l)
    where
      go : (b : Bool) → test x ≡ b → keep test (k ++ l) ≡ keep test k ++ keep test l → keep test (x ∷ k ++ l) ≡ keep test (x ∷ k) ++ keep test l
      go true e ih = rw (e, keep) (ap (λ (xs : List ℕ). x ∷ xs) ih)
      go false e ih = rw (e, keep) ih

  -- what is kept was there, and passed
  pub keep_in : (l : List ℕ) (y : ℕ) → Memᴰ y (keep test l) → Memᴰ y l × (test y ≡ true)
  unfolding keep
  keep_in [] y m = absurd (Memᴰ.not-nil m)
  keep_in (x ∷ l) y m = go (test x) refl (keep_in l y)
    where
      first : test x ≡ true → (y ≡ x) ⊎ Memᴰ y (keep test l) → (Memᴰ y (keep test l) → Memᴰ y l × (test y ≡ true)) → Memᴰ y (x ∷ l) × (test y ≡ true)
      first e (inl h) ih = (Memᴰ.head h, ap test h ∙ e)
      first e (inr n) ih = let r = ih n in (Memᴰ.tail r.0, r.1)

      go : (b : Bool) → test x ≡ b → (Memᴰ y (keep test l) → Memᴰ y l × (test y ≡ true)) → Memᴰ y (x ∷ l) × (test y ≡ true)
      go true e ih = first e (Memᴰ.cases_cons (rw (e, keep) at m)) ih
      go false e ih = let r = ih (rw (e, keep) at m) in (Memᴰ.tail r.0, r.1)

  -- what was there and passes is kept
  pub in_keep : (l : List ℕ) (y : ℕ) → Memᴰ y l → test y ≡ true → Memᴰ y (keep test l)
  unfolding keep
  in_keep [] y m t = absurd (Memᴰ.not-nil m)
  in_keep (x ∷ l) y m t = go (Memᴰ.cases_cons m) (test x) refl (λ n. in_keep l y n t)
    where
      go : (y ≡ x) ⊎ Memᴰ y l → (b : Bool) → test x ≡ b → (Memᴰ y l → Memᴰ y (keep test l)) → Memᴰ y (keep test (x ∷ l))
      go (inl h) b e ih = let p : test x ≡ true = ap test (sym h) ∙ t in rw (p, keep) (Memᴰ.head h)
      go (inr n) true e ih = rw (e, keep) (Memᴰ.tail (ih n))
      go (inr n) false e ih = rw (e, keep) (ih n)

  pub keep_few : (l : List ℕ) → length (keep test l) ≤ length l
  unfolding keep
  keep_few [] = zero-le
  keep_few (x ∷ l) = go (test x) refl (keep_few l)
    where
      go : (b : Bool) → test x ≡ b → length (keep test l) ≤ length l → length (keep test (x ∷ l)) ≤ length (x ∷ l)
      go true e ih = rw (e, keep) (omega arith)
      go false e ih = rw (e, keep) (omega arith)

  pub keep_none : (l : List ℕ) → ((x : ℕ) → Memᴰ x l → test x ≡ false) → keep test l ≡ []
  unfolding keep
  keep_none [] h = refl
  keep_none (x ∷ l) h = rw (h x (Memᴰ.head refl), keep) (keep_none l (λ y m. h y (Memᴰ.tail m)))

  pub keep_all : (l : List ℕ) → ((x : ℕ) → Memᴰ x l → test x ≡ true) → keep test l ≡ l
  unfolding keep
  keep_all [] h = refl
  keep_all (x ∷ l) h = keep_yes x l (h x (Memᴰ.head refl)) ∙ ap (λ (xs : List ℕ). x ∷ xs) (keep_all l (λ y m. h y (Memᴰ.tail m)))

  pub keep_distinct : (l : List ℕ) → Distinct l → Distinct (keep test l)
  unfolding keep
  keep_distinct [] d = tt
  keep_distinct (x ∷ l) d = go (test x) refl (keep_distinct l d.1)
    where
      go : (b : Bool) → test x ≡ b → Distinct (keep test l) → Distinct (keep test (x ∷ l))
      go true e ih = rw (e, keep) (λ m. d.0 (keep_in l x m).0, ih)
      go false e ih = rw (e, keep) ih

  pub keep_total : (f : ℕ → ℕ) (l : List ℕ) → total f (keep test l) ≡ total (λ x. gate (test x) (f x)) l
  unfolding keep
  keep_total f [] = refl
  keep_total f (x ∷ l) = go (test x) refl (keep_total f l)
    where
      go : (b : Bool) → test x ≡ b → total f (keep test l) ≡ total (λ y. gate (test y) (f y)) l → total f (keep test (x ∷ l)) ≡ gate (test x) (f x) + total (λ y. gate (test y) (f y)) l
      go true e ih = rw (e, keep) (omega arith)
      go false e ih = rw (e, keep) (omega arith)

  -- the order of the list does not matter
  pub keep_same : (k l : List ℕ) → Same k l → Same (keep test k) (keep test l)
  keep_same k l h f = keep_total f k ∙ h (λ x. gate (test x) (f x)) ∙ sym (keep_total f l)

-- two tests that agree on the list keep the same
pub keep_cong : (test test' : ℕ → Bool) (l : List ℕ) → ((x : ℕ) → Memᴰ x l → test x ≡ test' x) → keep test l ≡ keep test' l
unfolding keep
keep_cong test test' [] h = refl
keep_cong test test' (x ∷ l) h = go (test' x) refl (h x (Memᴰ.head refl)) (keep_cong test test' l (λ y m. h y (Memᴰ.tail m)))
  where
    go : (b : Bool) → test' x ≡ b → test x ≡ test' x → keep test l ≡ keep test' l → keep test (x ∷ l) ≡ keep test' (x ∷ l)
    go true e f ih = keep_yes test x l (f ∙ e) ∙ ap (λ (xs : List ℕ). x ∷ xs) ih ∙ sym (keep_yes test' x l e)
    go false e f ih = keep_no test x l (f ∙ e) ∙ ih ∙ sym (keep_no test' x l e)

-- the numbers from j on
pub up_from_length : (n j : ℕ) → length (up_from n j) ≡ n
unfolding up_from
up_from_length zero j = refl
up_from_length (suc n) j = ap suc (up_from_length n (suc j))

pub up_from_has : (n j i : ℕ) → j ≤ i → i < j + n → Memᴰ i (up_from n j)
unfolding up_from
up_from_has zero j i h k = absurd (omega arith)
up_from_has (suc n) j i h k = go (ℕ_discrete i j) (up_from_has n (suc j) i)
  where
    go : Dec (i ≡ j) → (suc j ≤ i → i < suc j + n → Memᴰ i (up_from n (suc j))) → Memᴰ i (j ∷ up_from n (suc j))
    go (yes e) ih = Memᴰ.head e
    go (no d) ih = Memᴰ.tail (ih (omega arith) (omega arith))

pub up_from_range : (n j i : ℕ) → Memᴰ i (up_from n j) → (j ≤ i) × (i < j + n)
unfolding up_from
up_from_range zero j i m = absurd (Memᴰ.not-nil m)
up_from_range (suc n) j i m = go (Memᴰ.cases_cons m) (up_from_range n (suc j) i)
  where
    go : (i ≡ j) ⊎ Memᴰ i (up_from n (suc j)) → (Memᴰ i (up_from n (suc j)) → (suc j ≤ i) × (i < suc j + n)) → (j ≤ i) × (i < j + suc n)
    go (inl e) ih = omega arith
    go (inr k) ih = let g = ih k in omega arith

pub up_from_last : (n j : ℕ) → up_from (suc n) j ≡ up_from n j ++ ((j + n) ∷ [])
unfolding up_from
up_from_last zero j = ap (λ (x : ℕ). x ∷ []) (omega arith)
up_from_last (suc n) j = ap (λ (xs : List ℕ). j ∷ xs) (up_from_last n (suc j) ∙ ap (λ (x : ℕ). up_from n (suc j) ++ (x ∷ [])) (omega arith))
