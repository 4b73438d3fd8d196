-- `signature::wanted::Wanted::is_covered_by` meets its contract: the AND of the two is the query exactly where it is in every word, the words
-- outside the part are 0 and covered, and the loop goes on only where all words so far passed.
-- Assumes nothing.
use mathlib.Core.Path.{◌≡◌, refl, sym, ◌∙◌}
use mathlib.Core.Bool.{Bool}
use mathlib.Core.List.{List}
use mathlib.Core.Logic.{inl, inr}
use Prim.Native.Nat.{ℕ, ◌-◌, ◌^◌, ◌<◌}
use native.Mathlib.Numerals.{add-one}
use native.Mathlib.Omega.{arith}
use lib.ListN.{length}
use borrow.Author.Tests.{eq-eqb, ne_eqb}
use Rattle.model.specs.Wide.{AreWords, number_in}
use Rattle.model.specs.Signature.{coversb}
use Rattle.signature.proofs.Covering.{and_test}
use Rattle.signature.proofs.Wide.{each_word, covers_word, each_covers, each_yes, each_no, each_over, each_end, zero_covered}
use Rattle.signature.proofs.wanted.Wanted.is_covered_by.Goals as goal

-- the words' answer is the number's, at every width
answer : (xs ys : List ℕ) → length xs ≡ length ys → AreWords xs → AreWords ys → (r : Bool) → each_word covers_word xs ys ≡ r
    → (F : ℕ) → number_in ys < 2 ^ F → r ≡ coversb F (number_in xs) (number_in ys)
answer xs ys l hx hy r e F h = sym e ∙ sym (each_covers xs ys l hx hy) ∙ and_test F (number_in xs) (number_in ys) h

pub loop-i-init : goal.loop-i-init
loop-i-init c =
    let q = c.args.self in
    each_over covers_word c.args.signature.now q.words.now c.requires q.from 0 q.from (omega arith) (omega (arith, q.inside.0, q.inside.1)) refl (λ j l h. zero_covered _ _ (q.outside j (inl h)))

pub returns-then-signature-i : goal.returns-then-signature-i
returns-then-signature-i c =
    let q = c.args.self in
    let l = c.loop-i-test.true in
    answer c.args.signature.now q.words.now c.requires (λ i. (c.type_inv.signature i).fits) q.fits _
    (each_no covers_word c.args.signature.now q.words.now c.requires c.loop-i.i (omega (arith, q.inside.1)) c.loop-i.invariant (ne_eqb _ _ c.if-signature-i.true))

pub loop-i-preserved : goal.loop-i-preserved
loop-i-preserved c =
    let q = c.args.self in
    let l = c.loop-i-test.true in
    rw (add-one c.loop-i.i)
    (each_yes covers_word c.args.signature.now q.words.now c.requires c.loop-i.i (omega (arith, q.inside.1)) c.loop-i.invariant (eq-eqb _ _ c.if-signature-i.false))

pub returns : goal.returns
returns c =
    let q = c.args.self in
    let n = length q.words.now in
    let i = c.loop-i.auto.i-end q.inside.0 in
    let d = c.loop-i-test.false in
    answer c.args.signature.now q.words.now c.requires (λ i. (c.type_inv.signature i).fits) q.fits _
    (each_end covers_word c.args.signature.now q.words.now c.requires n (omega arith)
    (each_over covers_word c.args.signature.now q.words.now c.requires (n - c.loop-i.i) c.loop-i.i n (omega (arith, i, q.inside.1)) (omega arith) c.loop-i.invariant (λ j l h. zero_covered _ _ (q.outside j (inr (omega arith))))))
