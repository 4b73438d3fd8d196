-- A word of the tables by its address, where it lives in the packed slices: beyond the links, in a part of a node's word.
-- Assumes nothing.
use Prim.Native.Nat.{ℕ, ◌+◌, ◌-◌, ◌*◌, ◌/◌, ◌%◌, ◌^◌, ◌≤◌, ◌<◌}
use native.Mathlib.Omega.{arith}
use mathlib.Core.Path.{◌≡◌, sym, ◌∙◌, ap}
use mathlib.Core.List.{List}
use lib.ListN.{length, get_or, set}
use Rattle.model.specs.Tables.{links_of}
use Rattle.model.specs.Packed.{with_part, rows_of, unpacked, Packs}
use Rattle.model.proofs.Packing.{part_store}

module _ (links nodes : List ℕ) (P : Packs (length nodes + 1) links nodes) (at : ℕ) (to : at < links_of (length nodes + 1)) (from : length links ≤ at) where
  abbrev n : ℕ
  n = at - length links

  place : rows_of (length nodes + 1) + 3 * (n / 3) + n % 3 ≡ at
  place = omega (arith, P.rows_long)

  node_inside : (at - length links) / 3 < length nodes
  node_inside = omega (arith, P.rows_long)

  pub store_beyond : (v : ℕ) → v < 2 ^ 17
      → unpacked links (set nodes ((at - length links) / 3) (with_part (get_or nodes ((at - length links) / 3) 0) ((at - length links) % 3) v)) ≡ set (unpacked links nodes) at v
  store_beyond v h =
      sym (part_store (length nodes + 1) links nodes P (n / 3) (n % 3) v (omega arith) (omega (arith, node_inside)) h)
      ∙ ap (λ (a : ℕ). set (unpacked links nodes) a v) place
