-- The stored signatures of a ledger: those of its pairs; and of tables: a signature is stored exactly while some filed block has it.
-- Assumes nothing.
use Prim.Native.Nat.{ℕ, zero, suc, ◌-◌, ◌≤◌, ◌<◌}
use native.Mathlib.Omega.{arith}
use mathlib.Core.Path.{◌≡◌, sym, ◌∙◌, ap, subst}
use mathlib.Core.Logic.{◌⊎◌, inl, inr, ◌≢◌, ◌↔◌}
use mathlib.Core.Bool.{true}
use mathlib.Core.List.Memᴰ
use mathlib.Core.List.{List, [], ◌∷◌, Memᴰ}
use lib.ListN.{length, get_or}
use Rattle.model.specs.Tables.{filed_of, signature_of}
use Rattle.model.specs.Ledger.{Entry, unfiled, pair, pair_signatures, is_stored, entry_in, entries_from, ledger_of}
use Rattle.model.proofs.Members.{has_in, in_has}
use Rattle.model.proofs.Matching.{pair_not, pair_one}
use Rattle.tables.proofs.Entries.{entry_is, entry_pair, entries_length, entries_at, entries_of}

-- a signature of the pairs is some entry's, and the other way
pub pair_at : (s : ℕ) (es : List Entry) → Memᴰ s (pair_signatures es) → (i : ℕ) × (i < length es) × (get_or es i unfiled ≡ pair s)
pair_at s [] m = absurd (Memᴰ.not-nil m)
pair_at s (unfiled ∷ es) m = let r = pair_at s es m in (suc r.0, omega (arith, r.1), r.2)
pair_at s (pair u ∷ es) m = go (Memᴰ.cases_cons m) (pair_at s es)
  where
    go : (s ≡ u) ⊎ Memᴰ s (pair_signatures es) → (Memᴰ s (pair_signatures es) → (i : ℕ) × (i < length es) × (get_or es i unfiled ≡ pair s)) → (i : ℕ) × (i < length (pair u ∷ es)) × (get_or (pair u ∷ es) i unfiled ≡ pair s)
    go (inl e) ih = (0, omega arith, ap pair (sym e))
    go (inr n) ih = let r = ih n in (suc r.0, omega (arith, r.1), r.2)

pub at_pair : (s : ℕ) (es : List Entry) (i : ℕ) → i < length es → get_or es i unfiled ≡ pair s → Memᴰ s (pair_signatures es)
at_pair s [] i h e = absurd (omega arith)
at_pair s (unfiled ∷ es) zero h e = absurd (pair_not s e)
at_pair s (unfiled ∷ es) (suc i) h e = at_pair s es i (omega arith) e
at_pair s (pair u ∷ es) zero h e = Memᴰ.head (sym (pair_one u s e))
at_pair s (pair u ∷ es) (suc i) h e = Memᴰ.tail (at_pair s es i (omega arith) e)

-- a filed block with this signature; a filed word above 1 counts as filed
pub record Holder (sigs links : List ℕ) (s : ℕ) : Type 0 where
  pub block : ℕ
  pub from : 1 ≤ block
  pub to : block ≤ length sigs
  pub filed : filed_of links block ≢ 0
  pub its : signature_of sigs block ≡ s

module _ (sigs links : List ℕ) where
  -- a signature is stored exactly while some filed block has it
  pub stored_holder : (s : ℕ) → is_stored s (ledger_of sigs links) ≡ true → Holder sigs links s
  stored_holder s e =
      let es = entries_from sigs links (length sigs) 1 in
      let r = pair_at s es (has_in s (pair_signatures es) e) in
      let k : r.0 < length sigs = subst (λ (n : ℕ). r.0 < n) (entries_length sigs links (length sigs) 1) r.1 in
      let x = entry_is sigs links (suc r.0) s (sym (entries_at sigs links (length sigs) 1 r.0 k ∙ ap (entry_in sigs links) (omega arith)) ∙ r.2) in
      record { block = suc r.0; from = omega arith; to = omega arith; filed = x.0; its = x.1 }

  pub holder_stored : (s : ℕ) → Holder sigs links s → is_stored s (ledger_of sigs links) ≡ true
  holder_stored s H =
      let es = entries_from sigs links (length sigs) 1 in
      in_has s (pair_signatures es)
      (at_pair s es (H.block - 1) (rw (entries_length sigs links (length sigs) 1) (omega (arith, H.from, H.to)))
      (entries_of sigs links (length sigs) H.block H.from H.to ∙ entry_pair sigs links H.block s H.filed H.its))

  pub stored_of : (s : ℕ) → (is_stored s (ledger_of sigs links) ≡ true) ↔ Holder sigs links s
  stored_of s = (stored_holder s, holder_stored s)
