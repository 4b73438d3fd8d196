-- `signature::compare::agrees` meets its contract: the masked number is the edges' exactly where all masked words are the edges' words.
-- Assumes nothing.
use mathlib.Core.Path.{refl}
use native.Mathlib.Numerals.{add-one}
use Rattle.signature.proofs.Wide.{agree_yes, agree_no, agree_end}
use Rattle.signature.proofs.compare.agrees.Goals as goal

pub returns-then-signature-mask : goal.returns-then-signature-mask
returns-then-signature-mask c =
    agree_no c.args.signature.now c.args.mask.now c.args.edges.now c.requires.1 c.requires.2 0 c.requires.0 refl c.if-signature-mask.true
    (λ i. (c.type_inv.signature i).fits) (λ i. (c.type_inv.mask i).fits) (λ i. (c.type_inv.edges i).fits)

pub loop-i-init : goal.loop-i-init
loop-i-init c = agree_yes c.args.signature.now c.args.mask.now c.args.edges.now c.requires.1 c.requires.2 0 c.requires.0 refl c.if-signature-mask.false

pub returns-then-signature-i : goal.returns-then-signature-i
returns-then-signature-i c =
    agree_no c.args.signature.now c.args.mask.now c.args.edges.now c.requires.1 c.requires.2 c.loop-i.i c.loop-i-test.true c.loop-i.invariant c.if-signature-i.true
    (λ i. (c.type_inv.signature i).fits) (λ i. (c.type_inv.mask i).fits) (λ i. (c.type_inv.edges i).fits)

pub loop-i-preserved : goal.loop-i-preserved
loop-i-preserved c =
    rw (add-one c.loop-i.i)
    (agree_yes c.args.signature.now c.args.mask.now c.args.edges.now c.requires.1 c.requires.2 c.loop-i.i c.loop-i-test.true c.loop-i.invariant c.if-signature-i.false)

pub returns : goal.returns
returns c =
    agree_end c.args.signature.now c.args.mask.now c.args.edges.now c.requires.1 c.requires.2 c.loop-i.i c.loop-i-test.false c.loop-i.invariant
    (λ i. (c.type_inv.signature i).fits) (λ i. (c.type_inv.mask i).fits) (λ i. (c.type_inv.edges i).fits)
