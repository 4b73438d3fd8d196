-- `signature::compare::same` meets its contract: two numbers are equal exactly where all their words are.
-- Assumes nothing.
use mathlib.Core.Path.{◌≡◌, refl, sym, ◌∙◌}
use mathlib.Core.Bool.{Bool}
use mathlib.Core.List.{List}
use Prim.Native.Nat.{ℕ}
use native.Mathlib.Numerals.{add-one}
use lib.Dec.{eqb}
use lib.ListN.{length}
use borrow.Author.Tests.{eq-eqb, ne_eqb}
use Rattle.model.specs.Wide.{AreWords, number_in}
use Rattle.signature.proofs.Wide.{each_word, each_same, each_yes, each_no, each_end}
use Rattle.signature.proofs.compare.same.Goals as goal

-- the words' answer is the number's
answer : (xs ys : List ℕ) → length xs ≡ length ys → AreWords xs → AreWords ys → (r : Bool) → each_word eqb xs ys ≡ r → r ≡ eqb (number_in xs) (number_in ys)
answer xs ys l hx hy r e = sym (each_same xs ys l hx hy ∙ e)

pub returns-then-a-b : goal.returns-then-a-b
returns-then-a-b c =
    answer c.args.a.now c.args.b.now c.requires.1 (λ i. (c.type_inv.a i).fits) (λ i. (c.type_inv.b i).fits) _
    (each_no eqb c.args.a.now c.args.b.now c.requires.1 0 c.requires.0 refl (ne_eqb _ _ c.if-a-b.true))

pub loop-i-init : goal.loop-i-init
loop-i-init c = each_yes eqb c.args.a.now c.args.b.now c.requires.1 0 c.requires.0 refl (eq-eqb _ _ c.if-a-b.false)

pub returns-then-a-i : goal.returns-then-a-i
returns-then-a-i c =
    answer c.args.a.now c.args.b.now c.requires.1 (λ i. (c.type_inv.a i).fits) (λ i. (c.type_inv.b i).fits) _
    (each_no eqb c.args.a.now c.args.b.now c.requires.1 c.loop-i.i c.loop-i-test.true c.loop-i.invariant (ne_eqb _ _ c.if-a-i.true))

pub loop-i-preserved : goal.loop-i-preserved
loop-i-preserved c =
    rw (add-one c.loop-i.i) (each_yes eqb c.args.a.now c.args.b.now c.requires.1 c.loop-i.i c.loop-i-test.true c.loop-i.invariant (eq-eqb _ _ c.if-a-i.false))

pub returns : goal.returns
returns c =
    answer c.args.a.now c.args.b.now c.requires.1 (λ i. (c.type_inv.a i).fits) (λ i. (c.type_inv.b i).fits) _
    (each_end eqb c.args.a.now c.args.b.now c.requires.1 c.loop-i.i c.loop-i-test.false c.loop-i.invariant)
