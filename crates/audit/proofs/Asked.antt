-- The promise of an audit that asks question 4 of the slices, and 11 of the tables that it says yes to.
-- Assumes nothing.
use Prim.Native.Nat.{ℕ}
use mathlib.Core.Path.{◌≡◌, refl, sym, ◌∙◌, ap, subst}
use mathlib.Core.Bool.{Bool, false, ◌&&◌}
use mathlib.Core.List.{List, []}
use Rattle.std.specs.Prelude.{Result, Err, IsErr, IsErrAnd}
use Rattle.model.specs.Packed.{unpacked}
use Rattle.model.specs.Questions.{ask, asks_tables, tables_fit}
use Rattle.model.specs.Promises.{AuditPromise}
use Rattle.model.specs.PackedPromises.{packed_fit, PackedAudit}
use Rattle.answers.specs.declared.refusal.Refusal.{Refusal}
use Rattle.answers.specs.Answers.{answer_of}
use Rattle.answers.proofs.Numbers.{no_four, passed_on}
use Rattle.tables.proofs.Either.{none_held}
use Rattle.audit.proofs.Verdict.{refused, promised}

-- question 4's no to slices, by the answer `said` to it
module _ (words links : List ℕ) {Q T : Type 0} {said : Result Q Refusal} (a : Result T Refusal) {r : Refusal} (was : said ≡ Err r) (on : IsErr a × IsErrAnd a (λ x. x ≡ r)) where
  said_four : (t : Bool) → answer_of said ≡ ask 4 t 0 → (t ≡ false) × (answer_of a ≡ 4)
  said_four t e = let q = no_four r t (ap answer_of (sym was) ∙ e) in (q.0, passed_on a r on ∙ q.1)

  pub unfit_packed : (nodes : List ℕ) → answer_of said ≡ ask 4 (packed_fit links nodes && tables_fit (asks_tables words (unpacked links nodes))) 0 → PackedAudit words links nodes (answer_of a)
  unfit_packed nodes e =
      let q = said_four _ e in
      record {
        unfit = λ _. (q.1, tt);
        asked = λ p.
            let no : tables_fit (asks_tables words (unpacked links nodes)) ≡ false = rw p at q.0 in
            subst (AuditPromise words (unpacked links nodes)) (refused _ _ no ∙ sym q.1) (promised _ _);
      }

  pub unfit_unpacked : answer_of said ≡ ask 4 (tables_fit (asks_tables words links)) 0 → AuditPromise words links (answer_of a)
  unfit_unpacked e = let q = said_four _ e in subst (AuditPromise words links) (refused _ _ q.0 ∙ sym q.1) (promised _ _)

-- of the form of 5 * B + 2 links the tables held are the links
pub answered_unpacked : {words links V L : List ℕ} {answer : ℕ} → (V ≡ words) × (L ≡ links) → AuditPromise V (unpacked L []) answer → AuditPromise words links answer
answered_unpacked {L = L} same told = rw (← same.0, ← same.1, ← none_held L [] refl) told
