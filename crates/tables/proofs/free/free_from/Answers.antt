-- `tables::free::free_from` meets its contract: the two cases of the definition.
-- Assumes nothing.
use native.Mathlib.Omega.{arith}
use mathlib.Core.Path.{sym}
use Rattle.tables.proofs.Spelled.{free_some, free_none}
use Rattle.tables.proofs.free.free_from.Goals as goal

pub returns-then-i-blocks-clause-value : goal.returns-then-i-blocks-clause-value
returns-then-i-blocks-clause-value c = sym (free_some _ _ c.if-i-blocks.true)

pub returns-else-i-blocks-clause-value : goal.returns-else-i-blocks-clause-value
returns-else-i-blocks-clause-value c = sym (free_none _ _ (omega (arith, c.if-i-blocks.false)))
