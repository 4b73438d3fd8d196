-- `audit::free::free_chain` meets its contract. The invariant: the rest of the chain gives what the whole chain gives.
-- Assumes nothing.
use Prim.Native.Nat.{◌-◌}
use mathlib.Core.Path.{◌≡◌}
use lib.ListN.{length}
use Rattle.model.specs.Tables.{free_of}
use Rattle.model.specs.Packed.{unpacked}
use Rattle.audit.specs.Audit.{free_twin}
use Rattle.audit.proofs.free.free_chain.Given as goal

abbrev pub invariant-loop : goal.invariant-loop
invariant-loop g l =
    let F = g.F.Form in
    let U = unpacked (F.links l.form) (F.nodes l.form) in
    let B = length (F.signatures l.form) in
    free_twin l.many U B (free_of U) ≡ free_twin (l.many - l.counter) U B l.node
