-- `split::Signed::smaller_side` meets its contract: the ones and the rest, which are the zeros.
-- Assumes nothing.
use Rattle.std.proofs.Common.{arith}
use Rattle.model.specs.Build.{smaller}
use Rattle.model.specs.Tables.{signature_of}
use Rattle.model.proofs.Sides.{sides_length}
use Rattle.split.proofs.Signed.smaller_side.Goals as goal

pub overflow_sub-group : goal.overflow_sub-group
overflow_sub-group g c =
    let a = c.args in
    omega (arith, sides_length a.position.width (signature_of (g.S.Signatures.numbers a.self.now.signatures)) a.position.number a.group.now)

pub returns : goal.returns
unfolding smaller
returns g c =
    let a = c.args in
    omega (arith, sides_length a.position.width (signature_of (g.S.Signatures.numbers a.self.now.signatures)) a.position.number a.group.now)
