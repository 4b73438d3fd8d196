-- `runner::serve_all` meets its contract: the whole slips, then the short one.
-- Assumes nothing.
use Rattle.runner.proofs.Turns.{holds_on}
use Rattle.runner.proofs.Taken.{took_all}
use Rattle.runner.proofs.serve_all.Goals as goal

pub last-requires-clause-index : goal.last-requires-clause-index
last-requires-clause-index g c = holds_on _ _ _ _ c.requires.index c.serve_whole-kept.ensures.whole.turns

pub returns-clause-took : goal.returns-clause-took
returns-clause-took g c = took_all _ _ _ _ _ _ c.serve_whole-kept.ensures.whole c.last.ensures.ended
