-- The questions of a withdrawal: the number of each first no, and what it says that there is none.
-- Assumes nothing.
use Prim.Native.Nat.{ℕ}
use native.Mathlib.Omega.{arith}
use mathlib.Core.Path.{◌≡◌, sym, ◌∙◌}
use mathlib.Core.Logic.{◌≢◌}
use mathlib.Core.Bool.{true, false, ◌&&◌}
use mathlib.Core.List.{List}
use lib.Dec.{leb}
use borrow.Author.Tests.{eq-eqb, ne_eqb}
use Rattle.model.specs.Tables.{blocks_of, filed_of}
use Rattle.model.specs.Questions.{asks_tables, ask, tables_fit, withdraw_refusal}
use Rattle.model.proofs.Asking.{in_range}
use Rattle.tables.specs.declared.packed.Tables.{Tables}
use Rattle.tables.specs.Held.{blocks_held, held}
use Rattle.model.proofs.Packing.{blocks_told}
use Rattle.tables.proofs.Held.{filed, fit}
use Rattle.withdraw.specs.Asking.{Passed}

pub refuses_unfit : (words links : List ℕ) (b : ℕ) → tables_fit (asks_tables words links) ≡ false → withdraw_refusal (asks_tables words links) b ≡ 4
unfolding withdraw_refusal ask
refuses_unfit words links b e = rw (e, withdraw_refusal)

-- the later ones of tables that are read: B and the filed word as they are read
module _ (t : Tables) (b : ℕ) (B : ℕ) (is_B : B ≡ blocks_held t) where
  abbrev refusal : ℕ
  refusal = withdraw_refusal (asks_tables t.rows.signatures.now (held t)) b

  blocks : B ≡ blocks_of (held t)
  blocks = is_B ∙ sym (blocks_told (held t) (blocks_held t) t.fits.fits.links_long)

  pub refuses_5 : (leb 1 b && leb b B) ≡ false → 5 ≡ refusal
  unfolding withdraw_refusal ask
  refuses_5 e = rw (fit t, rw blocks at e, withdraw_refusal)

  module _ (block : (leb 1 b && leb b B) ≡ true) (f : ℕ) (is_f : f ≡ filed_of t.rows.links.now b) where
    word : f ≡ filed_of (held t) b
    word = is_f ∙ filed t b (omega (arith, is_B, in_range b B block))

    pub refuses_8 : f ≡ 0 → 8 ≡ refusal
    unfolding withdraw_refusal ask
    refuses_8 e = rw (fit t, rw blocks at block, eq-eqb (filed_of (held t) b) 0 (sym word ∙ e), withdraw_refusal)

    pub refuses_none : f ≢ 0 → 0 ≡ refusal
    unfolding withdraw_refusal ask
    refuses_none n = rw (fit t, rw blocks at block, ne_eqb (filed_of (held t) b) 0 (λ z. n (word ∙ z)), withdraw_refusal)

    pub passes : f ≢ 0 → Passed (blocks_held t) (held t) b
    passes n = let r = in_range b B block in record { from = r.0; to = omega (arith, is_B, r.1); filed = λ z. n (word ∙ z) }
