-- `set` meets its contract: the word is the last now that has set the position.
-- Assumes nothing.
use native.Mathlib.Omega.{arith}
use Rattle.words.proofs.Stamping.{stamped_set}
use Rattle.words.proofs.draft.ManyWordsDraft.set.Goals as goal

pub returns-clause-own : goal.returns-clause-own
returns-clause-own c = stamped_set _ _ _ (omega arith)
