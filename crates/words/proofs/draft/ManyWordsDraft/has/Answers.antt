-- `has` meets its contract: the word has set a position where it is the last that has.
-- Assumes nothing.
use native.Mathlib.Omega.{arith}
use Rattle.words.proofs.Stamping.{stamped_at}
use Rattle.words.proofs.draft.ManyWordsDraft.has.Goals as goal

pub returns : goal.returns
returns c = stamped_at _ _ _ _ (omega arith)
