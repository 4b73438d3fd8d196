-- What a choice that gives true says of its test.
-- Assumes nothing.
use mathlib.Core.Path.{◌≡◌, refl}
use mathlib.Core.Bool.{Bool, true, false}
use Rattle.model.specs.Basics.{pick}
use Rattle.model.proofs.Asking.{true_false}

pub no_bool : {A : Type 0} → ◌≡◌ {A = Bool} false true → A
no_bool e = true_false e refl

pub pick_false : (t b : Bool) → pick t false b ≡ true → (t ≡ false) × (b ≡ true)
pick_false true b e = no_bool e
pick_false false b e = (refl, e)

pub pick_true : (t b : Bool) → pick t b false ≡ true → (t ≡ true) × (b ≡ true)
pick_true true b e = (refl, e)
pick_true false b e = no_bool e
