-- The list of the marked blocks: its blocks are the marked ones, the marks are those of the list, and the ledger's list of matching
-- blocks is a list of this kind. Both lists keep numbers from 1 to B by a test, so equal tests give equal lists.
-- Assumes nothing.
use Prim.Native.Nat.{ℕ, zero, suc, ◌+◌, ◌-◌, ◌≤◌, ◌<◌}
use native.Mathlib.Omega.{arith}
use mathlib.Core.Path.{◌≡◌, refl, sym, ◌∙◌, ap, ap₂}
use mathlib.Core.Logic.{◌⊎◌, inl, inr}
use mathlib.Core.Bool.{Bool, true, false, not, ◌&&◌}
use mathlib.Core.List.{List, ◌∷◌, ◌++◌, Memᴰ}
use lib.Dec.{eqb}
use lib.ListN.{length, get_or, take, drop, take-append-drop}
use lib.Seq.{ext_get_or, get_or-take, length-take-le}
use borrow.Author.Tests.{eqb-true, eq-eqb}
use Rattle.model.specs.Basics.{has, keep, up_from}
use Rattle.model.specs.Signature.{coversb}
use Rattle.model.specs.Tables.{width_of, filed_of, signature_of}
use Rattle.model.specs.Ledger.{entry_in, entries_from, matching_from, matching, ledger_of}
use Rattle.model.specs.Promises.{marks_from, marks_after}
use Rattle.model.proofs.Members.{in_has, in_not}
use Rattle.model.proofs.Keep.{keep_yes, keep_no, keep_in, in_keep, up_from_has, up_from_range}
use Rattle.search.specs.Marks.{is_marked, listed}

-- block b of the first B is marked
abbrev pub Marked : ℕ → List ℕ → ℕ → Type 0
Marked B m b = (1 ≤ b) × (b ≤ B) × (get_or m (b - 1) 0 ≡ 1)

pub listed_in : (B : ℕ) (m : List ℕ) (b : ℕ) → Memᴰ b (listed B m) → Marked B m b
listed_in B m b n =
    let r = keep_in (is_marked m) (up_from B 1) b n in
    let k = up_from_range B 1 b r.0 in
    (omega arith, omega arith, eqb-true _ _ r.1)

pub listed_has : (B : ℕ) (m : List ℕ) (b : ℕ) → Marked B m b → Memᴰ b (listed B m)
listed_has B m b h =
    let low = h.0 in
    let high = h.1 in
    in_keep (is_marked m) (up_from B 1) b (up_from_has B 1 b low (omega arith)) (eq-eqb _ _ h.2)

-- the marks of a list
module _ (list : List ℕ) where
  marks_long : (n b : ℕ) → length (marks_from list n b) ≡ n
  unfolding marks_from
  marks_long zero b = refl
  marks_long (suc n) b = ap suc (marks_long n (suc b))

  marks_yes : (n b i : ℕ) → i < n → has (b + i) list ≡ true → get_or (marks_from list n b) i 0 ≡ 1
  unfolding marks_from
  marks_yes zero b i l e = absurd (omega arith)
  marks_yes (suc n) b zero l e = let z : b + 0 ≡ b = omega arith in let d : has b list ≡ true = rw z at e in rw (d, marks_from)
  marks_yes (suc n) b (suc i) l e = let z : b + suc i ≡ suc b + i = omega arith in marks_yes n (suc b) i (omega arith) (rw z at e)

  marks_no : (n b i : ℕ) → i < n → has (b + i) list ≡ false → get_or (marks_from list n b) i 0 ≡ 0
  unfolding marks_from
  marks_no zero b i l e = absurd (omega arith)
  marks_no (suc n) b zero l e = let z : b + 0 ≡ b = omega arith in let d : has b list ≡ false = rw z at e in rw (d, marks_from)
  marks_no (suc n) b (suc i) l e = let z : b + suc i ≡ suc b + i = omega arith in marks_no n (suc b) i (omega arith) (rw z at e)

-- marks of 0 and 1 at the first B places, with the old ones beyond, are those of their list
pub marks_are : (B : ℕ) (m m' : List ℕ) → B ≤ length m' → drop B m' ≡ drop B m → ((i : ℕ) → i < B → (get_or m' i 0 ≡ 0) ⊎ (get_or m' i 0 ≡ 1)) → m' ≡ marks_after B (listed B m') m
marks_are B m m' le d two =
    let long : length (take B m') ≡ B = length-take-le B m' le in
    let e : take B m' ≡ marks_from (listed B m') B 1 = ext_get_or 0 (take B m') (marks_from (listed B m') B 1) (long ∙ sym (marks_long (listed B m') B 1)) (λ i l. at i (omega arith) (two i (omega arith))) in
    sym (take-append-drop B m') ∙ ap₂ (λ (x y : List ℕ). x ++ y) e d
  where
    at : (i : ℕ) → i < B → (get_or m' i 0 ≡ 0) ⊎ (get_or m' i 0 ≡ 1) → get_or (take B m') i 0 ≡ get_or (marks_from (listed B m') B 1) i 0
    at i l (inl z) =
        let k : 1 + i - 1 ≡ i = omega arith in
        let out : Memᴰ (1 + i) (listed B m') → ⊥ = λ n. let p = listed_in B m' (1 + i) n in let o : get_or m' i 0 ≡ 1 = rw k at p.2 in omega arith in
        get_or-take B m' i 0 l ∙ z ∙ sym (marks_no (listed B m') B 1 i l (in_not (1 + i) (listed B m') out))
    at i l (inr o) =
        let k : 1 + i - 1 ≡ i = omega arith in
        let n : Memᴰ (1 + i) (listed B m') = listed_has B m' (1 + i) (omega arith, omega arith, rw k o) in
        get_or-take B m' i 0 l ∙ o ∙ sym (marks_yes (listed B m') B 1 i l (in_has (1 + i) (listed B m') n))

module _ (sigs links : List ℕ) (q : ℕ) where
  -- the block is filed and covers q
  abbrev pub tested : ℕ → Bool
  tested b = not (eqb (filed_of links b) 0) && coversb (width_of links) (signature_of sigs b) q

  matching_from_is : (n b : ℕ) → matching_from (width_of links) q b (entries_from sigs links n b) ≡ keep tested (up_from n b)
  unfolding matching_from entries_from entry_in keep up_from
  matching_from_is zero b = refl
  matching_from_is (suc n) b = go (eqb (filed_of links b) 0) refl (coversb (width_of links) (signature_of sigs b) q) refl (matching_from_is n (suc b))
    where
      go : (t : Bool) → eqb (filed_of links b) 0 ≡ t → (u : Bool) → coversb (width_of links) (signature_of sigs b) q ≡ u
          → matching_from (width_of links) q (suc b) (entries_from sigs links n (suc b)) ≡ keep tested (up_from n (suc b))
          → matching_from (width_of links) q b (entries_from sigs links (suc n) b) ≡ keep tested (b ∷ up_from n (suc b))
      go true e u d ih = let z : tested b ≡ false = rw e in rw (e, entry_in, entries_from, matching_from) (ih ∙ sym (keep_no tested b (up_from n (suc b)) z))
      go false e true d ih =
          let z : tested b ≡ true = rw (e, d) in
          rw (e, entry_in, entries_from, d, matching_from) (ap (λ (l : List ℕ). b ∷ l) ih ∙ sym (keep_yes tested b (up_from n (suc b)) z))
      go false e false d ih = let z : tested b ≡ false = rw (e, d) in rw (e, entry_in, entries_from, d, matching_from) (ih ∙ sym (keep_no tested b (up_from n (suc b)) z))

  -- the ledger's list
  pub matching_kept : matching q (ledger_of sigs links) ≡ keep tested (up_from (length sigs) 1)
  matching_kept = matching_from_is (length sigs) 1
