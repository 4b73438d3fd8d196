-- The entries of tables: block b's entry is told by its filed word and its signature, so where one block's row and signature change,
-- the ledger is the old one with that block's entry set.
-- Assumes nothing.
use Prim.Native.Nat.{ℕ, zero, suc, ◌+◌, ◌-◌, ◌≤◌, ◌<◌}
use native.Mathlib.Decide.{ℕ_discrete}
use native.Mathlib.Omega.{arith}
use mathlib.Core.Path.{◌≡◌, refl, sym, ◌∙◌, ap, ap₂, subst}
use mathlib.Core.Logic.{◌≢◌}
use mathlib.Core.Bool.{Bool, true, false, not}
use mathlib.Core.List.{List}
use lib.Dec.{eqb}
use lib.ListN.{length, get_or, set, length-set}
use lib.Seq.{ext_get_or, get_or-set_same, get_or-set_other}
use borrow.Author.Tests.{eq-eqb, ne_eqb}
use Rattle.model.specs.Tables.{width_of, filed_of, signature_of}
use Rattle.model.specs.Ledger.{Entry, unfiled, pair, entry_of, has_pair, entry_in, entries_from, ledger_of}
use Rattle.model.proofs.Matching.{pair_not, pair_one}

module _ (sigs links : List ℕ) where
  -- the entry of a block
  pub entry_unfiled : (b : ℕ) → filed_of links b ≡ 0 → entry_in sigs links b ≡ unfiled
  unfolding entry_in
  entry_unfiled b e = rw (eq-eqb (filed_of links b) 0 e, entry_in)

  pub entry_pair : (b s : ℕ) → filed_of links b ≢ 0 → signature_of sigs b ≡ s → entry_in sigs links b ≡ pair s
  unfolding entry_in
  entry_pair b s n e = rw (ne_eqb (filed_of links b) 0 n, entry_in, e)

  pub entry_filed : (b : ℕ) → has_pair (entry_in sigs links b) ≡ not (eqb (filed_of links b) 0)
  unfolding entry_in
  entry_filed b = go (eqb (filed_of links b) 0) refl
    where
      go : (t : Bool) → eqb (filed_of links b) 0 ≡ t → has_pair (entry_in sigs links b) ≡ not (eqb (filed_of links b) 0)
      go true e = rw (e, entry_in)
      go false e = rw (e, entry_in)

  pub entry_is : (b s : ℕ) → entry_in sigs links b ≡ pair s → (filed_of links b ≢ 0) × (signature_of sigs b ≡ s)
  entry_is b s e = go (ℕ_discrete (filed_of links b) 0)
    where
      go : Dec (filed_of links b ≡ 0) → (filed_of links b ≢ 0) × (signature_of sigs b ≡ s)
      go (yes z) = absurd (pair_not s (sym (entry_unfiled b z) ∙ e))
      go (no n) = (n, pair_one (signature_of sigs b) s (sym (entry_pair b (signature_of sigs b) n refl) ∙ e))

  pub entries_length : (n b : ℕ) → length (entries_from sigs links n b) ≡ n
  unfolding entries_from
  entries_length zero b = refl
  entries_length (suc n) b = ap suc (entries_length n (suc b))

  pub entries_at : (n b i : ℕ) → i < n → get_or (entries_from sigs links n b) i unfiled ≡ entry_in sigs links (b + i)
  unfolding entries_from
  entries_at zero b i h = absurd (omega arith)
  entries_at (suc n) b zero h = ap (entry_in sigs links) (omega arith)
  entries_at (suc n) b (suc i) h = entries_at n (suc b) i (omega arith) ∙ ap (entry_in sigs links) (omega arith)

  -- by block
  pub entries_of : (B b : ℕ) → 1 ≤ b → b ≤ B → entry_of (entries_from sigs links B 1) b ≡ entry_in sigs links b
  entries_of B b h k = entries_at B 1 (b - 1) (omega arith) ∙ ap (entry_in sigs links) (omega arith)

  -- a list with the tables' entry for every block is the tables' list
  pub entries_ext : (es : List Entry) (B : ℕ) → length es ≡ B → ((b : ℕ) → 1 ≤ b → b ≤ B → entry_of es b ≡ entry_in sigs links b) → es ≡ entries_from sigs links B 1
  entries_ext es B e h =
      ext_get_or unfiled es (entries_from sigs links B 1) (e ∙ sym (entries_length B 1))
      (λ i k. let j : suc i - 1 ≡ i = omega arith in (rw j at (h (suc i) (omega arith) (omega arith))) ∙ ap (entry_in sigs links) (omega arith) ∙ sym (entries_at B 1 i (omega arith)))

-- two tables of which only block b's row and signature differ
module _ (sigs links sigs' links' : List ℕ) where
  pub entry_same : (c : ℕ) → filed_of links' c ≡ filed_of links c → signature_of sigs' c ≡ signature_of sigs c → entry_in sigs' links' c ≡ entry_in sigs links c
  unfolding entry_in
  entry_same c f e = let entry : ℕ → ℕ → Entry = λ x y. elim (eqb x 0) [ true ↦ unfiled | false ↦ pair y ] in ap₂ entry f e

  -- block b's entry is v, and all else stays
  pub ledger_set : (b : ℕ) (v : Entry) → 1 ≤ b → b ≤ length sigs → length sigs' ≡ length sigs → width_of links' ≡ width_of links → entry_in sigs' links' b ≡ v
      → ((c : ℕ) → c ≢ b → 1 ≤ c → c ≤ length sigs → (filed_of links' c ≡ filed_of links c) × (signature_of sigs' c ≡ signature_of sigs c))
      → ledger_of sigs' links' ≡ record { width = width_of links; entries = set (entries_from sigs links (length sigs) 1) (b - 1) v }
  ledger_set b v b1 bB l w e o =
      rw (l, w) (ap (λ (es : List Entry). record { width = width_of links; entries = es })
      (sym (entries_ext sigs' links' (set old (b - 1) v) (length sigs) (length-set old (b - 1) v ∙ entries_length sigs links (length sigs) 1) (λ c h k. go c h k (ℕ_discrete c b)))))
    where
      old : List Entry
      old = entries_from sigs links (length sigs) 1

      go : (c : ℕ) → 1 ≤ c → c ≤ length sigs → Dec (c ≡ b) → entry_of (set old (b - 1) v) c ≡ entry_in sigs' links' c
      go c h k (yes x) =
          subst (λ (d : ℕ). entry_of (set old (b - 1) v) d ≡ entry_in sigs' links' d) (sym x)
          (get_or-set_same old (b - 1) v unfiled (omega (arith, entries_length sigs links (length sigs) 1)) ∙ sym e)
      go c h k (no n) =
          let s = o c n h k in
          get_or-set_other old (b - 1) (c - 1) v unfiled (omega arith) ∙ entries_of sigs links (length sigs) c h k ∙ sym (entry_same c s.0 s.1)
