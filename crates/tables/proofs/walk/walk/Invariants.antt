-- `tables::walk::walk` meets its contract. The invariant: what is left of the walk ends where the whole walk ends.
-- Assumes nothing.
use Prim.Native.Nat.{◌-◌}
use Rattle.tables.proofs.Reached.{Reached}
use Rattle.tables.proofs.walk.walk.Given as goal

abbrev pub invariant-loop : goal.invariant-loop
invariant-loop g l = Reached l.blocks l.width l.links l.nodes (g.S.Positions.number l.signature) (l.width - l.counter) l.reference l.node l.above
