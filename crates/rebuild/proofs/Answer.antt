-- The four ways in which `rebuild` ends, and that each is its promise: questions 4 and 9 in order, then the audit's verdict, which is
-- 0 on sound tables and 11 on all others that fit.
-- Assumes nothing.
use Prim.Native.Nat.{ℕ, ◌≤◌, ◌<◌}
use native.Mathlib.Omega.{arith}
use mathlib.Core.Path.{◌≡◌, refl, sym, ◌∙◌, ap}
use mathlib.Core.Logic.{◌≢◌, ◌⊎◌, inl, inr, ⊎_elim}
use mathlib.Core.Bool.{Bool, true, false}
use mathlib.Core.List.{List}
use lib.Dec.{leb}
use lib.ListN.{length, drop}
use borrow.Author.Tests.{le-leb, lt-leb}
use Rattle.model.specs.Tables.{blocks_of, signatures_of}
use Rattle.model.specs.Sound.{SoundLent}
use Rattle.model.specs.Rebuild.{rebuild_links}
use Rattle.model.specs.Questions.{asks_tables, ask, tables_fit, rebuild_refusal, audit_refusal}
use Rattle.model.specs.Promises.{unsound, RebuildPromise, AuditPromise}

module _ (words links scratch : List ℕ) where
  abbrev fit : Bool
  fit = tables_fit (asks_tables words links)

  abbrev refusal : ℕ
  refusal = rebuild_refusal (asks_tables words links) (length scratch)

  -- the number of the first no
  refusal_unfit : fit ≡ false → refusal ≡ 4
  unfolding rebuild_refusal ask
  refusal_unfit e = ap (λ (t : Bool). ask 4 t (ask 9 (leb (blocks_of links) (length scratch)) 0)) e

  refusal_scratch : fit ≡ true → refusal ≡ ask 9 (leb (blocks_of links) (length scratch)) 0
  unfolding rebuild_refusal ask
  refusal_scratch e = ap (λ (t : Bool). ask 4 t (ask 9 (leb (blocks_of links) (length scratch)) 0)) e

  refusal_short : fit ≡ true → length scratch < blocks_of links → refusal ≡ 9
  unfolding ask
  refusal_short e h = refusal_scratch e ∙ ap (λ (t : Bool). ask 9 t 0) (lt-leb (blocks_of links) (length scratch) h)

  refusal_none : fit ≡ true → blocks_of links ≤ length scratch → refusal ≡ 0
  unfolding ask
  refusal_none e h = refusal_scratch e ∙ ap (λ (t : Bool). ask 9 t 0) (le-leb (blocks_of links) (length scratch) h)

  -- a refusal other than 0, and nothing changes
  refuses : (n : ℕ) → refusal ≡ n → n ≢ 0 → RebuildPromise words links scratch n links scratch
  refuses n e h = record { refused = λ _. (sym e, refl, refl); asked = λ z. absurd (h (sym e ∙ z)) }

  pub answers_unfit : tables_fit (asks_tables words links) ≡ false → RebuildPromise words links scratch 4 links scratch
  answers_unfit e = refuses 4 (refusal_unfit e) (omega arith)

  pub answers_short : tables_fit (asks_tables words links) ≡ true → length scratch < blocks_of links → RebuildPromise words links scratch 9 links scratch
  answers_short e h = refuses 9 (refusal_short e h) (omega arith)

  -- the audit's verdict on tables that fit
  verdict : fit ≡ true → (answer : ℕ) → AuditPromise words links answer → ((answer ≡ 0) × SoundLent words links) ⊎ ((answer ≡ unsound) × (SoundLent words links → ⊥))
  unfolding audit_refusal ask
  verdict e answer A = A.asked (ap (λ (t : Bool). ask 4 t 0) e)

  pub is_sound : tables_fit (asks_tables words links) ≡ true → (answer : ℕ) → AuditPromise words links answer → answer ≡ 0 → SoundLent words links
  is_sound e answer A z = ⊎_elim (λ x. x.1) (λ x. let y = x.0 in absurd (omega arith)) (verdict e answer A)

  is_unsound : fit ≡ true → (answer : ℕ) → AuditPromise words links answer → answer ≢ 0 → (answer ≡ unsound) × (SoundLent words links → ⊥)
  is_unsound e answer A z = ⊎_elim (λ x. absurd (z x.0)) (λ x. x) (verdict e answer A)

  pub answers_unsound : tables_fit (asks_tables words links) ≡ true → blocks_of links ≤ length scratch → (answer : ℕ) → AuditPromise words links answer → answer ≢ 0 → RebuildPromise words links scratch answer links scratch
  answers_unsound e h answer A z =
      let u = is_unsound e answer A z in
      record { refused = λ n. absurd (n (refusal_none e h)); asked = λ _. inr (u.1, u.0, refl, refl) }

  pub answers_rebuilt : tables_fit (asks_tables words links) ≡ true → blocks_of links ≤ length scratch → SoundLent words links → (links' scratch' : List ℕ) → links' ≡ rebuild_links (signatures_of words links) links
      → length scratch' ≡ length scratch → drop (blocks_of links) scratch' ≡ drop (blocks_of links) scratch → RebuildPromise words links scratch 0 links' scratch'
  answers_rebuilt e h S links' scratch' a b d =
      record { refused = λ n. absurd (n (refusal_none e h)); asked = λ _. inl (record { sound = S; zero = refl; made = a; long = b; beyond = d }) }
