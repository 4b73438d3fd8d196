-- A node's stores, made in packed tables; and that packed tables stay as they are where the tables that they hold do.
-- Assumes nothing.
use Prim.Native.Nat.{ℕ, zero, suc, ◌-◌, ◌^◌, ◌≤◌, ◌<◌}
use native.Mathlib.Omega.{arith}
use mathlib.Core.Path.{◌≡◌, sym, ◌∙◌, ap}
use mathlib.Core.Logic.{◌≢◌, ◌⊎◌, inl, inr}
use mathlib.Core.List.{List, [], ◌∷◌}
use lib.ListN.{length, set}
use lib.Seq.{set_comm}
use native.Mathlib.Decide.{ℕ_discrete}
use Rattle.model.specs.Tables.{position_at, side_at, left_at, right_at}
use Rattle.model.specs.Stores.{◌↤◌, stores}
use Rattle.model.specs.Packed.{unpacked, Packs, packed_links, packed_nodes}
use Rattle.model.specs.Promises.{Changes}
use Rattle.model.specs.PackedPromises.{Stays}
use Rattle.tables.specs.Nodes.{sides_word}
use Rattle.model.proofs.Packing.{node_store, packed_links_is, packed_nodes_is}

-- a node stored word by word, by the side that something goes to
pub sides_store : (B : ℕ) (links nodes : List ℕ) → Packs B links nodes → (i p e x y : ℕ) → 1 ≤ i → i < B → e ≤ 1 → x < 2 ^ 17 → y < 2 ^ 17
    → stores (unpacked links nodes) ((position_at B i ↤ p) ∷ (side_at B i e ↤ x) ∷ (side_at B i (1 - e) ↤ y) ∷ []) ≡ unpacked links (set nodes (i - 1) (sides_word p e x y))
unfolding sides_word
sides_store B links nodes P i p zero x y h k g a b = node_store B links nodes P i p x y h k a b
sides_store B links nodes P i p (suc zero) x y h k g a b =
    set_comm (set (unpacked links nodes) (position_at B i) p) (right_at B i) (left_at B i) x y (omega arith) ∙ node_store B links nodes P i p y x h k b a
sides_store B links nodes P i p (suc (suc e)) x y h k g a b = absurd (omega arith)

-- the same tables stand in the same slices
module _ (B : ℕ) (links nodes links' nodes' : List ℕ) (P : Packs B links nodes) (r : length links' ≡ length links) (n : length nodes' ≡ length nodes) where
  after : Packs B links' nodes'
  after = record { rows_long = r ∙ P.rows_long; nodes_long = omega (arith, P.nodes_long) }

  pub same_slices : unpacked links' nodes' ≡ unpacked links nodes → (links' ≡ links) × (nodes' ≡ nodes)
  same_slices e = (
    sym (packed_links_is B links' nodes' after) ∙ ap (packed_links B) e ∙ packed_links_is B links nodes P,
    sym (packed_nodes_is B links' nodes' after) ∙ ap (packed_nodes B) e ∙ packed_nodes_is B links nodes P,
  )

  pub stays_by : (answer : ℕ) → (answer ≢ 0 → unpacked links' nodes' ≡ unpacked links nodes) → Stays answer links nodes links' nodes'
  stays_by answer h = record { rows_long = r; nodes_long = n; untouched = λ z. same_slices (h z) }

  -- a change that is refused, or gives 11, leaves them
  pub changes_stay : (number : ℕ) (sigs sigs⁺ links⁺ : List ℕ) (answer : ℕ) (sigs' : List ℕ)
      → Changes number sigs (unpacked links nodes) sigs⁺ links⁺ answer sigs' (unpacked links' nodes') → Stays answer links nodes links' nodes'
  changes_stay number sigs sigs⁺ links⁺ answer sigs' C = stays_by answer (λ z. go z (ℕ_discrete number 0))
    where
      go : answer ≢ 0 → Dec (number ≡ 0) → unpacked links' nodes' ≡ unpacked links nodes
      go z (no m) = (C.refused m).2
      go z (yes e) = pass (C.anyway e)
        where
          pass : ((answer ≡ 0) × (length sigs' ≡ length sigs) × (length (unpacked links' nodes') ≡ length (unpacked links nodes))) ⊎ ((answer ≡ 11) × (sigs' ≡ sigs) × (unpacked links' nodes' ≡ unpacked links nodes)) → unpacked links' nodes' ≡ unpacked links nodes
          pass (inl x) = absurd (z x.0)
          pass (inr x) = x.2
