-- What `matching` lists: a block exactly when its entry is a pair whose signature covers the query, ascending, so none twice.
-- Assumes nothing.
use Prim.Native.Nat.{ℕ, zero, suc, ◌+◌, ◌-◌, ◌≤◌, ◌<◌}
use native.Mathlib.Omega.{arith}
use mathlib.Core.Path.{◌≡◌, refl, ◌∙◌, ap}
use mathlib.Core.Logic.{◌⊎◌, inl, inr}
use mathlib.Core.Bool.{Bool, true, false}
use mathlib.Core.List.Memᴰ
use mathlib.Core.List.{List, [], ◌∷◌, Memᴰ}
use lib.ListN.{length, get_or}
use Rattle.model.specs.Basics.{Ascending}
use Rattle.model.specs.Signature.{coversb}
use Rattle.model.specs.Ledger.{Entry, unfiled, pair, Ledger, entry_of, matching_from, matching}

-- a pair is not unfiled, and has one signature
abbrev is_pair : Entry → ℕ
is_pair unfiled = 0
is_pair (pair s) = 1

pub pair_not : (s : ℕ) → unfiled ≡ pair s → ⊥
pair_not s e = omega (arith, ap is_pair e)

abbrev signature_in : Entry → ℕ
signature_in unfiled = 0
signature_in (pair s) = s

pub pair_one : (s u : ℕ) → pair s ≡ pair u → s ≡ u
pair_one s u e = ap signature_in e

-- of the entries of block b and those after it, that of block x is a pair whose signature covers q
record Hit (F q b : ℕ) (es : List Entry) (x : ℕ) : Type 0 where
  place : ℕ
  signature : ℕ
  block : x ≡ b + place
  inside : place < length es
  its : get_or es place unfiled ≡ pair signature
  covers : coversb F signature q ≡ true

later : {F q b : ℕ} {es : List Entry} {x : ℕ} (e : Entry) → Hit F q (suc b) es x → Hit F q b (e ∷ es) x
later e h = record { place = suc h.place; signature = h.signature; block = omega (arith, h.block); inside = omega (arith, h.inside); its = h.its; covers = h.covers }

hit_of : (F q b : ℕ) (es : List Entry) (x : ℕ) → Memᴰ x (matching_from F q b es) → Hit F q b es x
unfolding matching_from
hit_of F q b [] x m = absurd (Memᴰ.not-nil m)
hit_of F q b (unfiled ∷ es) x m = later unfiled (hit_of F q (suc b) es x m)
hit_of F q b (pair s ∷ es) x m = go (coversb F s q) refl (hit_of F q (suc b) es x)
  where
    first : coversb F s q ≡ true → (x ≡ b) ⊎ Memᴰ x (matching_from F q (suc b) es) → (Memᴰ x (matching_from F q (suc b) es) → Hit F q (suc b) es x) → Hit F q b (pair s ∷ es) x
    first c (inl e) ih = record { place = 0; signature = s; block = omega arith; inside = omega arith; its = refl; covers = c }
    first c (inr n) ih = later (pair s) (ih n)

    go : (t : Bool) → coversb F s q ≡ t → (Memᴰ x (matching_from F q (suc b) es) → Hit F q (suc b) es x) → Hit F q b (pair s ∷ es) x
    go true e ih = first e (Memᴰ.cases_cons (rw (e, matching_from) at m)) ih
    go false e ih = later (pair s) (ih (rw (e, matching_from) at m))

of_hit : (F q b : ℕ) (es : List Entry) (i s : ℕ) → i < length es → get_or es i unfiled ≡ pair s → coversb F s q ≡ true → Memᴰ (b + i) (matching_from F q b es)
unfolding matching_from
of_hit F q b [] i s h e c = absurd (omega arith)
of_hit F q b (unfiled ∷ es) zero s h e c = absurd (pair_not s e)
of_hit F q b (unfiled ∷ es) (suc i) s h e c = let j : b + suc i ≡ suc b + i = omega arith in rw j (of_hit F q (suc b) es i s (omega arith) e c)
of_hit F q b (pair u ∷ es) zero s h e c =
    let d : coversb F u q ≡ true = ap (λ (v : ℕ). coversb F v q) (pair_one u s e) ∙ c in
    let z : b + 0 ≡ b = omega arith in
    rw (d, matching_from) (Memᴰ.head z)
of_hit F q b (pair u ∷ es) (suc i) s h e c = go (coversb F u q) refl (of_hit F q (suc b) es i s (omega arith) e c)
  where
    j : b + suc i ≡ suc b + i
    j = omega arith

    go : (t : Bool) → coversb F u q ≡ t → Memᴰ (suc b + i) (matching_from F q (suc b) es) → Memᴰ (b + suc i) (matching_from F q b (pair u ∷ es))
    go true d m = rw (j, d, matching_from) (Memᴰ.tail m)
    go false d m = rw (j, d, matching_from) m

-- a block of the ledger with a pair whose signature covers q
pub record MatchIn (L : Ledger) (q b : ℕ) : Type 0 where
  pub from : 1 ≤ b
  pub to : b ≤ length L.entries
  pub signature : ℕ
  pub its : entry_of L.entries b ≡ pair signature
  pub covers : coversb L.width signature q ≡ true

-- every listed block matches
pub matching_in : (L : Ledger) (q b : ℕ) → Memᴰ b (matching q L) → MatchIn L q b
matching_in L q b m =
    let h = hit_of L.width q 1 L.entries b m in
    let e : b - 1 ≡ h.place = omega (arith, h.block) in
    record { from = omega (arith, h.block); to = omega (arith, h.block, h.inside); signature = h.signature; its = rw e h.its; covers = h.covers }

-- and every matching block is listed
pub in_matching : (L : Ledger) (q b : ℕ) → MatchIn L q b → Memᴰ b (matching q L)
in_matching L q b m =
    let e : 1 + (b - 1) ≡ b = omega (arith, m.from) in
    rw e at (of_hit L.width q 1 L.entries (b - 1) m.signature (omega (arith, m.from, m.to)) m.its m.covers)

above_all : (b : ℕ) (l : List ℕ) → Ascending l → ((x : ℕ) → Memᴰ x l → b < x) → Ascending (b ∷ l)
above_all b [] a h = tt
above_all b (x ∷ l) a h = (h x (Memᴰ.head refl), a)

ascends : (F q b : ℕ) (es : List Entry) → Ascending (matching_from F q b es)
unfolding matching_from
ascends F q b [] = tt
ascends F q b (unfiled ∷ es) = ascends F q (suc b) es
ascends F q b (pair s ∷ es) = go (coversb F s q) refl (ascends F q (suc b) es)
  where
    go : (t : Bool) → coversb F s q ≡ t → Ascending (matching_from F q (suc b) es) → Ascending (matching_from F q b (pair s ∷ es))
    go true e ih = rw (e, matching_from) (above_all b (matching_from F q (suc b) es) ih (λ x m. omega (arith, (hit_of F q (suc b) es x m).block)))
    go false e ih = rw (e, matching_from) ih

pub matching_ascends : (L : Ledger) (q : ℕ) → Ascending (matching q L)
matching_ascends L q = ascends L.width q 1 L.entries
