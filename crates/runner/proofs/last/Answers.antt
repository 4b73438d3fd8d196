-- `runner::last` meets its contract. No byte is left, or a slip, which is short.
-- Assumes nothing.
use mathlib.Core.Path.{◌≡◌}
use mathlib.Core.Logic.{◌≢◌}
use lib.ListN.{length}
use borrow.Author.Rules.{rules}
use Rattle.runner.proofs.Turns.{ended_none, ended_one}
use Rattle.runner.proofs.last.Goals as goal

pub returns-then-is_empty-clause-ended : goal.returns-then-is_empty-clause-ended
returns-then-is_empty-clause-ended g c =
    let e : length c.args.slip.now ≡ 0 = search rules in
    ended_none _ _ e

pub returns-clause-ended : goal.returns-clause-ended
returns-clause-ended g c =
    let e : length c.args.slip.now ≢ 0 = search rules in
    ended_one _ _ _ _ _ _ e c.requires.short c.serve_one-used.ensures.served
