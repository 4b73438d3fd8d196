-- `withdraw::plan::plan_chain` meets its contract: on a chain that has the block, its head is one, and the block before is found.
-- Assumes nothing.
use native.Mathlib.Omega.{arith}
use mathlib.Core.Path.{◌∙◌}
use Rattle.std.proofs.lemmas.Option.{same_Some}
use Rattle.tables.proofs.Held.{next}
use Rattle.withdraw.proofs.Plans.{unlinks}
use Rattle.withdraw.proofs.plan.plan_chain.Goals as goal

pub returns-clause-right : goal.returns-clause-right
returns-clause-right c cs h k q m = unlinks _ _ _ _ _ _ (same_Some _ _ (c.in_ok-before.ensures.chain cs q m)) (c.next_of-next.ensures ∙ next c.args.tables.now _ c.requires.1)

pub returns-clause-within : goal.returns-clause-within
returns-clause-within c =
    let i = c.in_ok-before.ensures.inside in
    (c.requires.2, i.0, i.1, omega (arith, c.requires.3, c.next_of-next.ensures, next c.args.tables.now _ c.requires.1))
