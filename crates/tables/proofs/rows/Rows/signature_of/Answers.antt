-- `tables::Rows::signature_of` meets its contract: the part is the block's words, W of them.
-- Assumes nothing.
use native.Mathlib.Omega.{arith}
use mathlib.Core.Path.{◌∙◌}
use Rattle.tables.proofs.Rowed.{count, block_inside, some_word}
use Rattle.tables.proofs.rows.Rows.signature_of.Goals as goal

pub signature_of-requires : goal.signature_of-requires
signature_of-requires c = (c.requires.0, block_inside c.args.self.now c.args.block c.requires.1)

pub returns-clause-number : goal.returns-clause-number
returns-clause-number c = let r = c.args.self.now in let n = count r in c.signature_of.ensures.number r.blocks (omega (arith, c.requires.1))

pub returns-clause-long : goal.returns-clause-long
returns-clause-long c = let r = c.args.self.now in let w = some_word r in (c.signature_of.ensures.long ∙ r.fit.each, omega (arith, c.signature_of.ensures.long))
