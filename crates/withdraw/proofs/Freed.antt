-- The free nodes, where a shape u takes the place of a part v of the tree: the nodes that only v had join them. So they are still exactly
-- the nodes outside the tree, and the old ones are still chained, since no word of theirs is a word of the tree.
-- Assumes nothing.
use Prim.Native.Nat.{ℕ, ◌≤◌, ◌<◌}
use native.Mathlib.Omega.{arith}
use mathlib.Core.Path.{◌≡◌, sym}
use mathlib.Core.Logic.{◌⊎◌, inl, inr}
use mathlib.Core.List.Memᴰ
use mathlib.Core.List.{List, [], ◌++◌, Memᴰ}
use Rattle.model.specs.Tables.{root_at, root_of, free_of}
use Rattle.model.specs.Sound.{Shape, some, nodes, FreeChain, SoundAt}
use Rattle.tables.proofs.Counts.{free_same}
use Rattle.tables.proofs.Ways.{Way, spot, replace, part_nodes}
use Rattle.tables.proofs.Links.{spot_link, link_other}
use Rattle.tables.proofs.Graft.{SameNode, graft_nodes_new, graft_nodes_old, graft_nodes_cases, part_gone}
use Rattle.tables.proofs.After.{Old, old}

module _ {B F : ℕ} {sigs L : List ℕ} (S : SoundAt B F sigs L) (t : Shape) (is_t : S.tree ≡ some t) {s : ℕ} {v : Shape} (w : Way F s v t) where
  O : Old S t
  O = old S t is_t

  -- r is the first of the old free nodes, and their words stay
  pub free_stays : (L' : List ℕ) (r : ℕ) → r ≡ free_of L → ((j : ℕ) → Memᴰ j S.free → SameNode B L L' (spot B root_at w) j) → FreeChain B L' r S.free
  free_stays L' r e same = free_same B L L' (free_of L) r S.free e
      (λ j m.
      let n = same j m in
      let o = link_other B root_at t (spot B root_at w) (spot_link B root_at w) j (O.outside j m) (λ d x. omega arith) in
      (n.0, n.1 0 (omega arith) (λ y. o 0 (omega arith) (sym y)), n.1 1 (omega arith) (λ y. o 1 (omega arith) (sym y))))
      S.free_holds

  -- v's nodes are u's and the ones gone
  module _ (u : Shape) (gone : List ℕ)
      (theirs : (j : ℕ) → Memᴰ j (nodes v) → Memᴰ j gone ⊎ Memᴰ j (nodes u))
      (inside : (j : ℕ) → Memᴰ j (nodes u) → Memᴰ j (nodes v))
      (out : (j : ℕ) → Memᴰ j gone → Memᴰ j (nodes v) × (Memᴰ j (nodes u) → ⊥)) where
    pub freed_outside : (j : ℕ) → Memᴰ j (gone ++ S.free) → Memᴰ j (nodes (replace w u)) → ⊥
    freed_outside j m n = go (Memᴰ.append_cases gone m)
      where
        late : Memᴰ j S.free → Memᴰ j (nodes t) ⊎ Memᴰ j (nodes u) → ⊥
        late k (inl x) = O.outside j k x
        late k (inr x) = O.outside j k (part_nodes w j (inside j x))

        go : Memᴰ j gone ⊎ Memᴰ j S.free → ⊥
        go (inl k) = let o = out j k in part_gone B sigs L [] (root_of L) w u O.holds O.placed j o.0 o.1 n
        go (inr k) = late k (graft_nodes_cases w u j n)

    pub freed_all : (j : ℕ) → 1 ≤ j → j < B → Memᴰ j (nodes (replace w u)) ⊎ Memᴰ j (gone ++ S.free)
    freed_all j h h' = go (O.all j h h')
      where
        late₂ : Memᴰ j gone ⊎ Memᴰ j (nodes u) → Memᴰ j (nodes (replace w u)) ⊎ Memᴰ j (gone ++ S.free)
        late₂ (inl m) = inr (Memᴰ.append_left S.free m)
        late₂ (inr m) = inl (graft_nodes_new w u j m)

        late : Memᴰ j (nodes (replace w u)) ⊎ Memᴰ j (nodes v) → Memᴰ j (nodes (replace w u)) ⊎ Memᴰ j (gone ++ S.free)
        late (inl m) = inl m
        late (inr m) = late₂ (theirs j m)

        go : Memᴰ j (nodes t) ⊎ Memᴰ j S.free → Memᴰ j (nodes (replace w u)) ⊎ Memᴰ j (gone ++ S.free)
        go (inl m) = late (graft_nodes_old w u j m)
        go (inr m) = inr (Memᴰ.append_right gone m)
