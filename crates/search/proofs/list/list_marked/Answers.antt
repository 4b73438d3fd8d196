-- `search::list::list_marked` meets its contract. The invariant: the output lists the blocks of the runs passed; where all are listed
-- before the last run, no later block is marked.
-- Assumes nothing.
use Prim.Native.Nat.{◌*◌, ◌/◌}
use mathlib.Core.Path.{◌≡◌}
use native.Mathlib.Omega.{arith}
use Rattle.search.proofs.Listings.{part_full, part_then, list_whole}
use Rattle.search.proofs.list.list_marked.Goals as goal

pub returns-then-n-found : goal.returns-then-n-found
returns-then-n-found c =
    list_whole _ _ _ _ _ _ c.requires.3 (part_full _ _ _ _ _ _ c.args.blocks _ _ c.loop-run.invariant (omega (arith, c.loop-run-test.true)) c.if-n-found.true)

pub returns : goal.returns
returns c =
    let whole : c.loop-run.run ≡ c.args.blocks / 64 = omega arith in
    list_whole _ _ _ _ _ _ c.requires.3 (part_then _ _ _ _ _ (c.args.blocks / 64 * 64) _ _ _ _ _ (omega arith) (rw whole at c.loop-run.invariant) c.list_blocks.ensures)
