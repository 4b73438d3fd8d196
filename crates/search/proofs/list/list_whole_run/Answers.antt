-- `search::list::list_whole_run` meets its contract. The invariant: the output lists the blocks passed. Fewer than 64 are passed before
-- each block, so fewer than `found` are listed.
-- Assumes nothing.
use mathlib.Core.Path.{sym, ◌∙◌}
use native.Mathlib.Omega.{arith}
use Rattle.search.proofs.Listings.{pass_yes, pass_no}
use Rattle.search.proofs.list.list_whole_run.Goals as goal
use Rattle.search.proofs.list.list_whole_run.Goals.{then-is_marked, else-is_marked}

pub loop-passed-preserved : goal.loop-passed-preserved
loop-passed-preserved c = elim c.if-is_marked.branch [
  | then-is_marked w ↦ pass_yes _ _ _ _ _ _ _ _ _ c.loop-passed.invariant (omega arith) (omega arith) c.requires.3 _ (sym c.is_marked.ensures ∙ w.if-is_marked.true) w.n-is
  | else-is_marked w ↦ pass_no _ _ _ _ _ _ _ _ _ c.loop-passed.invariant (omega arith) (omega arith) c.requires.3 _ (sym c.is_marked.ensures ∙ w.if-is_marked.false) w.n-is
]
