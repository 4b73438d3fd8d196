-- `search::walk::Query::mark_chain` meets its contract. The invariant: the rest of the chain gives what the whole chain gives.
-- Assumes nothing.
use mathlib.Core.Path.{◌≡◌}
use lib.ListN.{length}
use Rattle.tables.specs.Held.{signatures_held}
use Rattle.search.specs.Marks.{SameLoan}
use Rattle.search.specs.Search.{chain_twin}
use Rattle.search.proofs.walk.Query.mark_chain.Given as goal

abbrev pub invariant-loop-block : goal.invariant-loop-block
invariant-loop-block g l = record {
  loan : SameLoan l.marks.bytes l.initial.marks.bytes;
  long : length l.marks.bytes.now ≡ length l.initial.marks.bytes.now;
  same : chain_twin (signatures_held l.self.tables) l.self.tables.rows.links.now (g.Q.Positions.number l.self.bits) l.fn.left.nodes l.fn.left.forks l.fn.left.blocks l.head l.initial.marks.bytes.now ≡ chain_twin (signatures_held l.self.tables) l.self.tables.rows.links.now (g.Q.Positions.number l.self.bits) l.rest.nodes l.rest.forks l.rest.blocks l.block l.marks.bytes.now;
}

abbrev pub decreases-loop-block : goal.decreases-loop-block
decreases-loop-block g l = l.rest.blocks
