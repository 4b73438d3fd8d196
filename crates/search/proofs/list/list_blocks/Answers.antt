-- `search::list::list_blocks` meets its contract. The invariant: the output lists the blocks passed.
-- Assumes nothing.
use mathlib.Core.Path.{sym, ◌∙◌}
use native.Mathlib.Omega.{arith}
use Rattle.search.proofs.Listings.{part_full, pass_yes, pass_no}
use Rattle.search.proofs.list.list_blocks.Goals as goal
use Rattle.search.proofs.list.list_blocks.Goals.{then-is_marked, else-is_marked}

pub returns-then-found-n : goal.returns-then-found-n
returns-then-found-n c = let now = c.loop-passed.invariant in part_full _ _ _ _ _ _ _ _ _ now.part now.high c.if-found-n.true

pub loop-passed-preserved : goal.loop-passed-preserved
loop-passed-preserved c = elim c.if-is_marked.branch [
  | then-is_marked w ↦ pass_yes _ _ _ _ _ _ _ _ _ c.loop-passed.invariant (omega arith) (omega arith) c.requires.3 _ (sym c.is_marked.ensures ∙ w.if-is_marked.true) w.n-is
  | else-is_marked w ↦ pass_no _ _ _ _ _ _ _ _ _ c.loop-passed.invariant (omega arith) (omega arith) c.requires.3 _ (sym c.is_marked.ensures ∙ w.if-is_marked.false) w.n-is
]
