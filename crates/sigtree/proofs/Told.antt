-- What the reader of slips is told of lent tables is what question 4 says of them: do they fit, and W.
-- Assumes nothing.
use Prim.Native.Nat.{ℕ}
use native.Mathlib.Omega.{arith}
use mathlib.Core.Path.{◌≡◌, refl, ◌∙◌, ap, ap₂}
use mathlib.Core.Bool.{Bool, true, false, ◌&&◌}
use mathlib.Core.List.{List}
use Rattle.model.specs.Wide.{word_count}
use Rattle.model.specs.Tables.{width_of}
use Rattle.model.specs.Packed.{unpacked}
use Rattle.model.specs.Questions.{ask, asks_tables, tables_fit}
use Rattle.model.specs.PackedPromises.{packed_fit, asks_packed}
use Rattle.tables.specs.declared.packed.Tables.{Tables}
use Rattle.tables.specs.declared.lent.TablesMut.{TablesMut}
use Rattle.tables.specs.Changed.{IsRead}
use Rattle.tables.proofs.Held.{front}
use Rattle.answers.specs.declared.refusal.Refusal.{Refusal}
use Rattle.answers.specs.Answers.{number_of}
use Rattle.answers.proofs.Numbers.{no_four}
use Rattle.sigtree.specs.Asked.{asked_of, FieldWords}
use Rattle.std.specs.Prelude.{Some, None}

asks_both : (p l w f : Bool) → (((p && l) && w) && f) ≡ (p && ((l && w) && f))
asks_both true l w f = refl
asks_both false l w f = refl

-- question 4 of packed tables is that of both parts
module _ (words links nodes : List ℕ) where
  abbrev Both : Bool
  Both = packed_fit links nodes && tables_fit (asks_tables words (unpacked links nodes))

  both_asked : tables_fit (asks_packed words links nodes) ≡ Both
  both_asked = asks_both (packed_fit links nodes) _ _ _

  yes_of : (b : Bool) → 0 ≡ ask 4 b 0 → b ≡ true
  unfolding ask
  yes_of true e = refl
  yes_of false e = absurd (omega (arith, e))

pub told_none : (t : TablesMut) (r : Refusal) → number_of r ≡ ask 4 (Both t.signatures.now t.links.now t.nodes.now) 0 → FieldWords (asked_of t) None
told_none t r e = both_asked t.signatures.now t.links.now t.nodes.now ∙ (no_four r _ e).0

pub told_some : (t : TablesMut) (x : Tables) → 0 ≡ ask 4 (Both t.signatures.now t.links.now t.nodes.now) 0 → IsRead t x → FieldWords (asked_of t) (Some x.rows.words)
told_some t x e h =
    let s = t.signatures.now in
    let y = both_asked s t.links.now t.nodes.now ∙ yes_of s t.links.now t.nodes.now _ e in
    let f : width_of x.rows.links.now ≡ width_of (unpacked t.links.now t.nodes.now) = front x 0 (omega arith) ∙ ap₂ (λ (l n : List ℕ). width_of (unpacked l n)) h.1 h.2 in
    (y, x.rows.fit.each ∙ ap word_count f, omega (arith, x.rows.fit.each, x.rows.fit.rows.width_to))
