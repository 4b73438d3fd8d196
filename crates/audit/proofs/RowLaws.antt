-- The rows' test: it says yes exactly where each row is in order, and the code takes it row by row.
-- Assumes nothing.
use Prim.Native.Nat.{ℕ, zero, suc, ◌+◌, ◌-◌, ◌^◌, ◌≤◌, ◌<◌}
use native.Mathlib.Decide.{ℕ_discrete}
use native.Mathlib.Omega.{arith}
use mathlib.Core.Path.{◌≡◌, refl, sym, ◌∙◌, ap, subst}
use mathlib.Core.Bool.{Bool, true, false}
use mathlib.Core.List.{List}
use lib.Dec.{eqb, ltb}
use lib.ListN.{length}
use Rattle.std.specs.Prelude.{None, Some}
use borrow.Author.Tests.{eq-eqb, ne_eqb, lt-ltb, eqb-true, ltb-true}
use Rattle.model.specs.Basics.{pick}
use Rattle.model.specs.Tables.{width_of, next_of, filed_of, signature_of}
use Rattle.model.specs.Sound.{filed_up_to}
use Rattle.audit.specs.Audit.{row_ok, rows_ok, rows_twin}
use Rattle.model.proofs.Picks.{pick_true}
use Rattle.audit.proofs.ChainLaws.{no_some}

-- a row in order
pub record RowIs (F s x f : ℕ) : Type 0 where
  pub narrow : s < 2 ^ F
  pub bit : f ≤ 1
  pub blank : f ≡ 0 → (x ≡ 0) × (s ≡ 0)

pub row_yes : (F s x f : ℕ) → row_ok F s x f ≡ true → RowIs F s x f
unfolding row_ok
row_yes F s x f e = let p = pick_true (ltb s (2 ^ F)) _ e in go (ltb-true _ _ p.0) (ℕ_discrete f 0) p.1
  where
    go : s < 2 ^ F → Dec (f ≡ 0) → pick (eqb f 0) (pick (eqb x 0) (eqb s 0) false) (eqb f 1) ≡ true → RowIs F s x f
    go n (yes z) q =
        let q' : pick (eqb x 0) (eqb s 0) false ≡ true = simp (eq-eqb f 0 z) at q in
        let p = pick_true (eqb x 0) (eqb s 0) q' in
        record { narrow = n; bit = omega arith; blank = λ y. (eqb-true _ _ p.0, eqb-true _ _ p.1) }
    go n (no nz) q =
        let q' : eqb f 1 ≡ true = simp (ne_eqb f 0 nz) at q in
        let i : f ≡ 1 = eqb-true f 1 q' in
        record { narrow = n; bit = omega arith; blank = λ y. absurd (nz y) }

row_whole : (F s x f : ℕ) → RowIs F s x f → row_ok F s x f ≡ true
unfolding row_ok
row_whole F s x f r = go (ℕ_discrete f 0)
  where
    go : Dec (f ≡ 0) → row_ok F s x f ≡ true
    go (yes z) = simp (lt-ltb _ _ r.narrow, eq-eqb f 0 z, eq-eqb _ _ (r.blank z).0, eq-eqb _ _ (r.blank z).1)
    go (no nz) = let h = r.bit in let i : f ≡ 1 = omega arith in simp (lt-ltb _ _ r.narrow, ne_eqb f 0 nz, eq-eqb _ _ i)

module _ (S L : List ℕ) where
  -- block b's row
  abbrev pub Row : ℕ → Type 0
  Row b = RowIs (width_of L) (signature_of S b) (next_of L b) (filed_of L b)

  pub rows_yes : (n : ℕ) → rows_ok S L n ≡ true → (b : ℕ) → 1 ≤ b → b ≤ n → Row b
  unfolding rows_ok
  rows_yes zero e b h k = absurd (omega arith)
  rows_yes (suc n) e b h k = let p = pick_true (rows_ok S L n) _ e in go (ℕ_discrete b (suc n)) (row_yes _ _ _ _ p.1) (rows_yes n p.0 b h)
    where
      go : Dec (b ≡ suc n) → Row (suc n) → (b ≤ n → Row b) → Row b
      go (yes i) x ih = subst Row (sym i) x
      go (no ne) x ih = ih (omega arith)

  pub rows_whole : (n : ℕ) → ((b : ℕ) → 1 ≤ b → b ≤ n → Row b) → rows_ok S L n ≡ true
  unfolding rows_ok
  rows_whole zero h = refl
  rows_whole (suc n) h = simp (rows_whole n (λ b x y. h b x (omega arith)), row_whole _ _ _ _ (h (suc n) (omega arith) (omega arith)))

  -- the rows before block b are fit, and the count is of them
  pub record RowsTo (b count : ℕ) : Type 0 where
    pub fit : rows_ok S L (b - 1) ≡ true
    pub counted : count ≡ filed_up_to L (b - 1)
    pub few : count + 1 ≤ b

  pub rows_first : RowsTo 1 0
  unfolding rows_ok
  rows_first = record { fit = refl; counted = refl; few = omega arith }

  rows_bad : (m n : ℕ) → n ≤ m → rows_ok S L n ≡ false → rows_ok S L m ≡ false
  unfolding rows_ok
  rows_bad zero n h e = let z : n ≡ 0 = omega arith in rw z at e
  rows_bad (suc m) n h e = go (ℕ_discrete n (suc m)) (λ k. rows_bad m n k e)
    where
      go : Dec (n ≡ suc m) → (n ≤ m → rows_ok S L m ≡ false) → rows_ok S L (suc m) ≡ false
      go (yes i) ih = ap (rows_ok S L) (sym i) ∙ e
      go (no ne) ih = simp (ih (omega arith))

  -- block b's row, of words s, x and f, after fit rows
  module _ (b count : ℕ) (before : RowsTo b count) {F s x f : ℕ} (at_F : F ≡ width_of L) (at_s : s ≡ signature_of S b) (at_x : x ≡ next_of L b) (at_f : f ≡ filed_of L b) where
    rows_step : (t : Bool) → row_ok F s x f ≡ t → rows_ok S L b ≡ t
    unfolding rows_ok
    rows_step t e = go b before (rw (at_F, at_s, at_x, at_f) at e)
      where
        go : (b : ℕ) → RowsTo b count → row_ok (width_of L) (signature_of S b) (next_of L b) (filed_of L b) ≡ t → rows_ok S L b ≡ t
        go zero r e = let h = r.few in absurd (omega arith)
        go (suc n) r e = let d : suc n - 1 ≡ n = omega arith in let fit = rw d at r.fit in rw (fit, rows_ok) e

    filed_step : filed_up_to L b ≡ count + f
    filed_step = go b before at_f
      where
        go : (b : ℕ) → RowsTo b count → f ≡ filed_of L b → filed_up_to L b ≡ count + f
        go zero r e = let h = r.few in absurd (omega arith)
        go (suc n) r e = let d : suc n - 1 ≡ n = omega arith in let counted = rw d at r.counted in omega (arith, counted, e)

    pub rows_next : row_ok F s x f ≡ true → RowsTo (b + 1) (count + f)
    rows_next e =
        let d : b + 1 - 1 ≡ b = omega arith in
        record { fit = rw d (rows_step true e); counted = rw d (sym filed_step); few = omega (arith, before.few, (row_yes _ _ _ _ e).bit) }

    pub rows_fail : b ≤ length S → row_ok F s x f ≡ false → None ≡ rows_twin S L
    rows_fail h e = rw (rows_bad (length S) b h (rows_step false e))

  pub rows_end : (b count : ℕ) → RowsTo b count → b ≡ length S + 1 → Some count ≡ rows_twin S L
  rows_end b count r e =
      let d : b - 1 ≡ length S = omega arith in
      let fit = rw d at r.fit in
      let counted = rw d at r.counted in
      rw (fit, ← counted)

  -- what the rows' answer says
  pub rows_none : None ≡ rows_twin S L → rows_ok S L (length S) ≡ false
  rows_none e = go (rows_ok S L (length S)) e
    where
      go : (t : Bool) → None ≡ pick t (Some (filed_up_to L (length S))) None → t ≡ false
      go true e = no_some e
      go false e = refl

  pub rows_some : (n : ℕ) → Some n ≡ rows_twin S L → (rows_ok S L (length S) ≡ true) × (n ≡ filed_up_to L (length S))
  rows_some n e = go (rows_ok S L (length S)) e
    where
      go : (t : Bool) → Some n ≡ pick t (Some (filed_up_to L (length S))) None → (t ≡ true) × (n ≡ filed_up_to L (length S))
      go true e = (refl, cc)
      go false e = no_some (sym e)
