-- `signature::compare::is_zero` meets its contract: a number is 0 exactly where all its words are.
-- Assumes nothing.
use native.Mathlib.Numerals.{add-one}
use Rattle.signature.proofs.Wide.{zeros_yes, zeros_no, zeros_end}
use Rattle.signature.proofs.compare.is_zero.Goals as goal

pub returns-then-word-ne0 : goal.returns-then-word-ne0
returns-then-word-ne0 c =
    zeros_no c.args.signature.now c.loop-word.word-index c.loop-word-test.true c.loop-word.invariant c.if-word-ne0.true (λ i. (c.type_inv.signature i).fits)

pub loop-word-preserved : goal.loop-word-preserved
loop-word-preserved c =
    rw (add-one c.loop-word.word-index) (zeros_yes c.args.signature.now c.loop-word.word-index c.loop-word-test.true c.loop-word.invariant c.if-word-ne0.false)

pub returns : goal.returns
returns c =
    zeros_end c.args.signature.now c.loop-word.word-index c.loop-word-test.false c.loop-word.invariant (λ i. (c.type_inv.signature i).fits)
