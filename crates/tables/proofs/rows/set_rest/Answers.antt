-- `tables::rows::set_rest` meets its contract: so many of the words are copied.
-- Assumes nothing.
use native.Mathlib.Omega.{arith}
use mathlib.Core.Path.{◌≡◌, refl, ap, ◌∙◌}
use lib.ListN.{length, length-set}
use lib.Seq.{paste}
use Rattle.model.proofs.Wide.{copy_next}
use Rattle.tables.proofs.rows.set_rest.Goals as goal

pub loop-i-init : goal.loop-i-init
loop-i-init c = (refl, λ words e l. e)

pub loop-i-preserved : goal.loop-i-preserved
loop-i-preserved c =
    let k = c.loop-i-test.true in (
      length-set c.loop-i.signatures _ _ ∙ c.loop-i.invariant.0,
      λ words e l. copy_next words _ c.args.signature.now c.loop-i.i _ (c.loop-i.invariant.1 words e l) (omega (arith, l, k, c.requires.0)) k,
    )

pub returns : goal.returns
returns c words e l =
    let n : c.loop-i.i ≡ length c.args.signature.now = omega (arith, c.loop-i-test.false, c.loop-i.auto.i-end c.requires.1) in
    c.loop-i.invariant.1 words e l ∙ ap (paste words _ c.args.signature.now) n
