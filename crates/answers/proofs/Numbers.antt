-- The numbers of refusals: none is 0, which says that the call was carried out, and `?` passes a refusal's number on.
-- Assumes nothing.
use Prim.Native.Nat.{◌≤◌}
use native.Mathlib.Omega.{arith}
use mathlib.Core.Path.{◌≡◌, refl, ap}
use mathlib.Core.Bool.{Bool, true, false}
use Rattle.std.specs.Prelude.{Result, Ok, Err, IsErr, IsErrAnd}
use Rattle.model.specs.Questions.{ask}
use Rattle.model.proofs.Picks.{no_bool}
use Rattle.answers.specs.declared.refusal.Refusal.{Refusal}
use Rattle.answers.specs.declared.refusal.Refusal.TheVariants.{NotASlip, UnknownKind, FieldUsed, Unfit, NoBlock, TooLarge, Filed, NotFiled, ShortScratch, ShortOutput, Unsound, LongText, NoSuchCount}
use Rattle.answers.specs.Answers.{number_of, answer_of}

-- a no has a number
pub number_some : (r : Refusal) → 1 ≤ number_of r
number_some NotASlip = omega arith
number_some UnknownKind = omega arith
number_some FieldUsed = omega arith
number_some Unfit = omega arith
number_some NoBlock = omega arith
number_some TooLarge = omega arith
number_some Filed = omega arith
number_some NotFiled = omega arith
number_some ShortScratch = omega arith
number_some ShortOutput = omega arith
number_some Unsound = omega arith
number_some LongText = omega arith
number_some NoSuchCount = omega arith

-- a question's no is its number
pub no_four : (r : Refusal) (t : Bool) → number_of r ≡ ask 4 t 0 → (t ≡ false) × (number_of r ≡ 4)
unfolding ask
no_four r true e = absurd (omega (arith, number_some r))
no_four r false e = (refl, e)

-- the no that `?` passes on
pub passed_on : {T : Type 0} (a : Result T Refusal) (r : Refusal) → IsErr a × IsErrAnd a (λ x. x ≡ r) → answer_of a ≡ number_of r
passed_on (Ok x) r h = no_bool h.0
passed_on (Err x) r h = ap number_of h.1
