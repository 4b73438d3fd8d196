-- `lines::numbers` meets its contract. A number of 32 bits has at most ten digits, so that each takes at most 11 bytes with its space.
-- Assumes nothing.
use Rattle.std.proofs.Common.{arith}
use Rattle.lines.proofs.Laws.{decimal_few, puts_number}
use Rattle.lines.proofs.numbers.Goals as goal

pub loop-n-preserved : goal.loop-n-preserved
loop-n-preserved c =
    let few = decimal_few _ (c.type_inv.list c.loop-n.n-index).fits in
    (puts_number _ _ _ _ _ _ _ _ c.loop-n.n-index c.args.list.now (omega arith) c.loop-n.invariant.0 c.push-begin.ensures c.digits-next.ensures, omega (arith, few))
