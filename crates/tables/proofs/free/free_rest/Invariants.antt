-- `tables::free::free_rest` meets its contract: the words still to be stored, from the node reached on, make the same tables.
-- Assumes nothing.
use Prim.Native.Nat.{ℕ, ◌-◌, ◌≤◌}
use mathlib.Core.Path.{◌≡◌}
use mathlib.Core.List.{List}
use lib.ListN.{length}
use lib.Seq.{sets}
use Rattle.model.specs.Tables.{position_at}
use Rattle.model.specs.Clear.{free_nodes}
use Rattle.model.specs.Packed.{unpacked, Packs}
use Rattle.tables.proofs.free.free_rest.Given as goal

abbrev pub invariant-loop-next : goal.invariant-loop-next
invariant-loop-next l =
    (l.next - 1 ≤ l.blocks) × (length l.nodes ≡ length l.initial.nodes)
    × ((links : List ℕ) → Packs l.blocks links l.initial.nodes → sets (unpacked links l.nodes) (position_at l.blocks (l.next - 1)) (free_nodes (l.blocks - (l.next - 1)) (l.next - 1)) ≡ sets (unpacked links l.initial.nodes) (position_at l.blocks l.first) (free_nodes (l.blocks - l.first) l.first))
