-- The nodes of sound tables fit a word each, and packed sound tables are unpacked again to what they were.
-- Assumes nothing.
use Prim.Native.Nat.{ℕ, zero, suc, ◌+◌, ◌-◌, ◌*◌, ◌^◌, ◌≤◌, ◌<◌}
use native.Mathlib.Omega.{arith}
use mathlib.Core.Path.{◌≡◌, refl, sym, ◌∙◌, ap, subst}
use mathlib.Core.Logic.{◌⊎◌, inl, inr}
use mathlib.Core.List.Memᴰ
use mathlib.Core.List.{List, [], ◌∷◌, ◌++◌, Memᴰ}
use lib.ListN.{length, get_or, drop, length-drop}
use lib.Seq.{get_or-drop}
use Rattle.model.specs.Limits.{widest, most_blocks}
use Rattle.model.specs.Tables.{links_of, position_at, left_at, right_at, position_of, left_of, right_of, free_of, root_of}
use Rattle.model.specs.Tree.{Edge, edge}
use Rattle.model.specs.Sound.{Shape, tip, fork, Rooted, none, some, Holds, HoldsRoot, Placed, PlacedRoot, nodes, nodes_in, FreeChain, SoundAt, Sound}
use Rattle.model.specs.Packed.{node_word, closed, rows_of, unpacked, packed_links, packed_nodes}
use Rattle.model.proofs.Packing.{Small, unpacked_packed}
use Rattle.convert.specs.Fitting.{NodeFits, NodesFit}

module _ (B F : ℕ) (sigs L : List ℕ) (b1 : 1 ≤ B) (b2 : B ≤ most_blocks) (f2 : F ≤ widest) where
  -- a reference to a shape
  below : (r : ℕ) (t : Shape) → Holds B L r t → r < 2 ^ 17
  below r (tip h cs) q = let a = q.0 in let b = q.2 in omega arith
  below r (fork i p l k) q = let a = q.0 in let b = q.2 in omega arith

  in_tree : (i r : ℕ) (path : List Edge) (t : Shape) → Holds B L r t → Placed F sigs L path t → Memᴰ i (nodes t) → NodeFits B L i
  in_tree i r path (tip h cs) q pl m = absurd (Memᴰ.not-nil m)
  in_tree i r path (fork j p l k) q pl m =
      go (Memᴰ.cases_cons m) (λ n. in_tree i (left_of B L j) (edge p 0 ∷ path) l q.4 pl.3 n) (λ n. in_tree i (right_of B L j) (edge p 1 ∷ path) k q.5 pl.4 n)
    where
      go : (i ≡ j) ⊎ Memᴰ i (nodes l ++ nodes k) → (Memᴰ i (nodes l) → NodeFits B L i) → (Memᴰ i (nodes k) → NodeFits B L i) → NodeFits B L i
      go (inl e) x y =
          let a = q.3 in
          let b = pl.1 in
          subst (NodeFits B L) (sym e) (record { position = omega arith; left = below (left_of B L j) l q.4; right = below (right_of B L j) k q.5 })
      go (inr n) x y = side (Memᴰ.append_cases (nodes l) n)
        where
          side : Memᴰ i (nodes l) ⊎ Memᴰ i (nodes k) → NodeFits B L i
          side (inl u) = x u
          side (inr u) = y u

  next_small : (r : ℕ) (is : List ℕ) → FreeChain B L r is → r < 2 ^ 17
  next_small r [] q = omega arith
  next_small r (i ∷ is) q = let a = q.0 in let b = q.2 in omega arith

  in_free : (i r : ℕ) (is : List ℕ) → FreeChain B L r is → Memᴰ i is → NodeFits B L i
  in_free i r [] q m = absurd (Memᴰ.not-nil m)
  in_free i r (j ∷ js) q m = go (Memᴰ.cases_cons m) (λ n. in_free i (left_of B L j) js q.5 n)
    where
      go : (i ≡ j) ⊎ Memᴰ i js → (Memᴰ i js → NodeFits B L i) → NodeFits B L i
      go (inl e) x = let a = q.3 in let b = q.4 in subst (NodeFits B L) (sym e) (record { position = omega arith; left = next_small (left_of B L j) js q.5; right = omega arith })
      go (inr n) x = x n

  in_rooted : (i r : ℕ) (t : Rooted) → HoldsRoot B L r t → PlacedRoot F sigs L t → Memᴰ i (nodes_in t) → NodeFits B L i
  in_rooted i r none q pl m = absurd (Memᴰ.not-nil m)
  in_rooted i r (some t) q pl m = in_tree i r [] t q pl m

pub nodes_fit : (B F : ℕ) (sigs L : List ℕ) → SoundAt B F sigs L → NodesFit B L
nodes_fit B F sigs L S i h k = go (S.free_all i h k)
  where
    go : Memᴰ i (nodes_in S.tree) ⊎ Memᴰ i S.free → NodeFits B L i
    go (inl m) = in_rooted B F sigs L S.fits.blocks_from S.fits.blocks_to S.fits.width_to i (root_of L) S.tree S.holds S.placed m
    go (inr m) = in_free B F sigs L S.fits.blocks_from S.fits.blocks_to S.fits.width_to i (free_of L) S.free S.free_holds m

-- by the list of the nodes' words
small_list : (n : ℕ) (ws : List ℕ) → length ws ≡ 3 * n → ((j : ℕ) → j < n → (get_or ws (3 * j + 1) 0 < 2 ^ 17) × (get_or ws (3 * j + 2) 0 < 2 ^ 17)) → Small ws
small_list zero [] e h = tt
small_list zero (p ∷ ws) e h = absurd (omega arith)
small_list (suc n) [] e h = tt
small_list (suc n) (p ∷ []) e h = tt
small_list (suc n) (p ∷ l ∷ []) e h = tt
small_list (suc n) (p ∷ l ∷ r ∷ ws) e h =
    let a = h 0 (omega arith) in (
      a.0,
      a.1,
      small_list n ws (omega arith) (λ j k.
          let x = h (suc j) (omega arith) in
          let u : 3 * suc j + 1 ≡ suc (suc (suc (3 * j + 1))) = omega arith in
          let v : 3 * suc j + 2 ≡ suc (suc (suc (3 * j + 2))) = omega arith in
          (rw u at x.0, rw v at x.1)),
    )

pub sound_small : (B : ℕ) (L : List ℕ) → 1 ≤ B → length L ≡ links_of B → NodesFit B L → Small (drop (rows_of B) L)
sound_small B L b e N =
    small_list (B - 1) (drop (rows_of B) L) (let d = length-drop (rows_of B) L in omega arith) (λ j k.
    let x = N (j + 1) (omega arith) (omega arith) in
    let u : rows_of B + (3 * j + 1) ≡ left_at B (j + 1) = omega arith in
    let v : rows_of B + (3 * j + 2) ≡ right_at B (j + 1) = omega arith in
    (rw (get_or-drop (rows_of B) L (3 * j + 1) 0, u) x.left, rw (get_or-drop (rows_of B) L (3 * j + 2) 0, v) x.right))

-- THE ROUND TRIP: packed and unpacked again, sound tables are what they were; the other way any packed tables are (Packing).
pub pack_unpack : (sigs L : List ℕ) → Sound sigs L → unpacked (packed_links (length sigs) L) (packed_nodes (length sigs) L) ≡ L
pack_unpack sigs L S =
    unpacked_packed (length sigs) L S.fits.blocks_from S.fits.links_long (sound_small (length sigs) L S.fits.blocks_from S.fits.links_long (nodes_fit _ _ sigs L S))

-- a packed node
closed_at : (n : ℕ) (ws : List ℕ) (j : ℕ) → length ws ≡ 3 * n → j < n → get_or (closed ws) j 0 ≡ node_word (get_or ws (3 * j) 0) (get_or ws (3 * j + 1) 0) (get_or ws (3 * j + 2) 0)
unfolding closed
closed_at zero ws j e h = absurd (omega arith)
closed_at (suc n) [] j e h = absurd (omega arith)
closed_at (suc n) (p ∷ []) j e h = absurd (omega arith)
closed_at (suc n) (p ∷ l ∷ []) j e h = absurd (omega arith)
closed_at (suc n) (p ∷ l ∷ r ∷ ws) zero e h = refl
closed_at (suc n) (p ∷ l ∷ r ∷ ws) (suc j) e h =
    let t : 3 * suc j ≡ suc (suc (suc (3 * j))) = omega arith in
    let u : 3 * suc j + 1 ≡ suc (suc (suc (3 * j + 1))) = omega arith in
    let v : 3 * suc j + 2 ≡ suc (suc (suc (3 * j + 2))) = omega arith in
    rw (u, v, t) (closed_at n ws j (omega arith) (omega arith))

closed_long : (n : ℕ) (ws : List ℕ) → length ws ≡ 3 * n → length (closed ws) ≡ n
unfolding closed
closed_long zero [] e = refl
closed_long zero (p ∷ ws) e = absurd (omega arith)
closed_long (suc n) [] e = absurd (omega arith)
closed_long (suc n) (p ∷ []) e = absurd (omega arith)
closed_long (suc n) (p ∷ l ∷ []) e = absurd (omega arith)
closed_long (suc n) (p ∷ l ∷ r ∷ ws) e = ap suc (closed_long n ws (omega arith))

module _ (B : ℕ) (L : List ℕ) (b : 1 ≤ B) (e : length L ≡ links_of B) where
  rest_long : length (drop (rows_of B) L) ≡ 3 * (B - 1)
  rest_long = let d = length-drop (rows_of B) L in omega arith

  pub nodes_long : length (packed_nodes B L) ≡ B - 1
  nodes_long = closed_long (B - 1) (drop (rows_of B) L) rest_long

  pub node_at : (i : ℕ) → 1 ≤ i → i < B → get_or (packed_nodes B L) (i - 1) 0 ≡ node_word (position_of B L i) (left_of B L i) (right_of B L i)
  node_at i h k =
      let t : rows_of B + 3 * (i - 1) ≡ position_at B i = omega arith in
      let u : rows_of B + (3 * (i - 1) + 1) ≡ left_at B i = omega arith in
      let v : rows_of B + (3 * (i - 1) + 2) ≡ right_at B i = omega arith in
      closed_at (B - 1) (drop (rows_of B) L) (i - 1) rest_long (omega arith)
      ∙ rw (get_or-drop (rows_of B) L (3 * (i - 1)) 0, get_or-drop (rows_of B) L (3 * (i - 1) + 1) 0, get_or-drop (rows_of B) L (3 * (i - 1) + 2) 0, t, u, v) refl
