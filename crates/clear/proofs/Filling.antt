-- The slices that a clearing fills, hold the definition's tables.
-- Assumes nothing.
use Prim.Native.Nat.{ℕ, ◌+◌, ◌-◌, ◌*◌, ◌≤◌}
use native.Mathlib.Omega.{arith}
use mathlib.Core.Path.{◌≡◌, sym, ◌∙◌, ap, ap₂}
use mathlib.Core.List.{List, [], ◌++◌, append-nil}
use lib.ListN.{length, take, drop, length-replicate, drop_of_length-le}
use lib.Seq.{sets, sets-eq, take_at}
use Rattle.model.specs.Tables.{position_at}
use Rattle.model.specs.Clear.{free_nodes, clear_links}
use Rattle.model.specs.Packed.{opened, rows_of, unpacked, Packs}
use Rattle.model.proofs.Packing.{long_packs}
use Rattle.tables.proofs.Spelled.{free_length}
use Rattle.clear.specs.Cleared.{clear_rows}

pub rows_length : (B F : ℕ) → length (clear_rows B F) ≡ rows_of B
unfolding clear_rows
rows_length B F = omega (arith, length-replicate {A = ℕ} (2 * B) 0)

-- the free nodes after them
pub cleared_tables : (B F : ℕ) (links nodes after : List ℕ) → 1 ≤ B → links ≡ clear_rows B F → Packs B links nodes
    → unpacked links after ≡ sets (unpacked links nodes) (position_at B 1) (free_nodes (B - 1) 1) → unpacked links after ≡ clear_links B F
unfolding unpacked clear_links clear_rows
cleared_tables B F links nodes after h e P z =
    let fr : List ℕ = free_nodes (B - 1) 1 in
    let U : List ℕ = unpacked links nodes in
    let n = long_packs B links nodes P in
    let k = free_length (B - 1) 1 in
    let p : position_at B 1 ≡ rows_of B = omega arith in
    let t : take (position_at B 1) U ≡ links = take_at links (opened nodes) (position_at B 1) (P.rows_long ∙ sym p) in
    let d : drop (position_at B 1 + length fr) U ≡ [] = drop_of_length-le U {i = position_at B 1 + length fr} (omega arith) in
    z ∙ sets-eq fr U (position_at B 1) (omega arith) ∙ ap₂ (λ (x y : List ℕ). x ++ fr ++ y) t d ∙ append-nil (links ++ fr) ∙ ap (λ (x : List ℕ). x ++ fr) e
