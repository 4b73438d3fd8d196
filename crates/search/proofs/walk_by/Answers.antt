-- `search::walk_by` meets its contract: the one word of a query is its number.
-- Assumes nothing.
use native.Mathlib.Omega.{arith}
use Rattle.model.proofs.Wide.{number_one}
use Rattle.search.proofs.walk_by.Goals as goal

pub of-requires : goal.of-requires
of-requires c =
    let q = c.requires.query in
    let one = c.if-query-eq1.true in
    (omega (arith, q.0), rw (number_one c.args.query.now one) at q.1)

pub returns-then-query-eq1-clause-gives : goal.returns-then-query-eq1-clause-gives
returns-then-query-eq1-clause-gives c =
    let q = c.of.ensures in
    let n = number_one c.args.query.now c.if-query-eq1.true in
    rw (q.0, q.1, ← n) at c.walk_tree.ensures.gives
