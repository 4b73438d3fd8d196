-- `audit::chain::follow` meets its contract. The invariant: the rest of the chain gives what the whole chain gives.
-- Assumes nothing.
use mathlib.Core.Path.{◌≡◌}
use Rattle.model.specs.Wide.{number_in}
use Rattle.tables.specs.Rows.{numbers}
use Rattle.audit.specs.Audit.{chain_twin}
use Rattle.audit.proofs.chain.follow.Given as goal

abbrev pub invariant-loop-block : goal.invariant-loop-block
invariant-loop-block l =
    let s = number_in l.signature in
    chain_twin l.lent (numbers l.rows) l.rows.links.now s l.head ≡ chain_twin l.left (numbers l.rows) l.rows.links.now s l.block

abbrev pub decreases-loop-block : goal.decreases-loop-block
decreases-loop-block l = l.left
