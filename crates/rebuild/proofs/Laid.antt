-- The words of the links that Rebuild leaves, read off their definition: header, rows, then the nodes of the tree, then the free ones.
-- Assumes nothing.
use Prim.Native.Nat.{ℕ, suc, ◌+◌, ◌-◌, ◌*◌, ◌≤◌, ◌<◌, max}
use native.Mathlib.Omega.{arith}
use mathlib.Core.Path.{◌≡◌, refl, sym, ◌∙◌, ap, ap₂}
use mathlib.Core.List.{List, [], ◌∷◌, ◌++◌, append-nil, append_assoc}
use lib.ListN.{length, set, take, drop, length-append, length-drop, length-set, get_or-append, drop_of_length-le}
use lib.Seq.{sets, sets-eq, length-take-le, get_or-take, get_or-drop}
use Rattle.model.specs.Tables.{word, links_of, position_at, width_of, told_blocks, root_of, free_of, count_of}
use Rattle.model.specs.Sound.{FitsAt}
use Rattle.model.specs.Clear.{free_from, free_nodes}
use Rattle.model.specs.Rebuild.{group_reference, group_nodes, group_links}
use Rattle.model.proofs.Stores.{sets_append}
use Rattle.split.specs.Split.{Apart, Below}
use Rattle.split.proofs.Nodes.{nodes_length}
use Rattle.tables.proofs.Spelled.{Spells, spells_end, free_length}

-- the first words once root and first free node are stored
front : (links : List ℕ) (root first n : ℕ) → 5 ≤ length links
    → take (n + 5) (set (set links 2 root) 3 first) ≡ width_of links ∷ told_blocks links ∷ root ∷ first ∷ count_of links ∷ take n (drop 5 links)
front [] root first n h = absurd (omega arith)
front (a ∷ []) root first n h = absurd (omega arith)
front (a ∷ b ∷ []) root first n h = absurd (omega arith)
front (a ∷ b ∷ c ∷ []) root first n h = absurd (omega arith)
front (a ∷ b ∷ c ∷ d ∷ []) root first n h = absurd (omega arith)
front (a ∷ b ∷ c ∷ d ∷ e ∷ l) root first n h =
    let q : n + 5 ≡ suc (suc (suc (suc (suc n)))) = omega arith in
    rw q refl

module _ (sigs links g : List ℕ) (fits : FitsAt (length sigs) (width_of links) sigs links) (below : Below (width_of links) sigs) (apart : Apart sigs g) (few : length g ≤ length sigs) where
  abbrev B : ℕ
  B = length sigs

  abbrev from : ℕ
  from = max 1 (length g)

  abbrev rows : List ℕ
  rows = take (2 * B) (drop 5 links)

  abbrev tree : List ℕ
  tree = group_nodes (length g) (width_of links) sigs g 1

  abbrev free : List ℕ
  free = free_nodes (B - from) from

  abbrev header : List ℕ
  header = width_of links ∷ B ∷ group_reference B g 1 ∷ free_from B from ∷ count_of links ∷ []

  rows_length : length rows ≡ 2 * B
  rows_length = length-take-le (2 * B) (drop 5 links) (omega (arith, length-drop 5 links, fits.links_long))

  tree_length : length tree ≡ 3 * (length g - 1)
  tree_length = nodes_length (width_of links) sigs below (length g) g 1 apart (omega arith)

  -- where the tree's words end
  pub tree_ends : position_at B 1 + length tree ≡ position_at B from
  tree_ends = omega (arith, tree_length)

  nodes_room : length (tree ++ free) ≡ 3 * (B - 1)
  nodes_room = omega (arith, length-append tree free, tree_length, free_length (B - from) from, fits.blocks_from)

  -- header and rows, then the nodes
  laid : group_links sigs links g ≡ header ++ rows ++ (tree ++ free)
  unfolding group_links
  laid = ap (λ (l : List ℕ). header ++ l) (append_assoc rows tree free)

  front_length : length (header ++ rows) ≡ position_at B 1
  front_length = omega (arith, rows_length)

  pub laid_long : length (group_links sigs links g) ≡ links_of (length sigs)
  laid_long = omega (arith, ap length laid, length-append (header ++ rows) (tree ++ free), front_length, nodes_room, fits.blocks_from)

  pub laid_width : width_of (group_links sigs links g) ≡ width_of links
  unfolding group_links
  laid_width = refl

  pub laid_told : told_blocks (group_links sigs links g) ≡ length sigs
  unfolding group_links
  laid_told = refl

  pub laid_root : root_of (group_links sigs links g) ≡ group_reference (length sigs) g 1
  unfolding group_links
  laid_root = refl

  pub laid_free : free_of (group_links sigs links g) ≡ free_from (length sigs) (max 1 (length g))
  unfolding group_links
  laid_free = refl

  pub laid_count : count_of (group_links sigs links g) ≡ count_of links
  unfolding group_links
  laid_count = refl

  -- a word of the rows is as it was
  pub laid_row : (w : ℕ) → 5 ≤ w → w < 2 * length sigs + 5 → word (group_links sigs links g) w ≡ word links w
  laid_row w lo hi =
      let k : ℕ = w - 5 in
      let e : w ≡ suc (suc (suc (suc (suc k)))) = omega arith in
      let f : 5 + k ≡ w = omega arith in
      ap (λ (l : List ℕ). word l w) laid
      ∙ get_or-append (header ++ rows) (tree ++ free) 0 w (omega (arith, front_length))
      ∙ ap (word (header ++ rows)) e
      ∙ get_or-take (2 * B) (drop 5 links) k 0 (omega arith)
      ∙ get_or-drop 5 links k 0
      ∙ ap (word links) f

  pub laid_nodes : Spells (group_links sigs links g) (position_at (length sigs) 1) (group_nodes (length g) (width_of links) sigs g 1 ++ free_nodes (length sigs - max 1 (length g)) (max 1 (length g)))
  laid_nodes = rw laid (spells_end (header ++ rows) (tree ++ free) (position_at B 1) front_length)

  -- the stores that write it: root and first free node, the tree's nodes, then the free ones
  pub written : sets (sets (set (set links 2 (group_reference (length sigs) g 1)) 3 (free_from (length sigs) (max 1 (length g)))) (position_at (length sigs) 1) (group_nodes (length g) (width_of links) sigs g 1))
      (position_at (length sigs) (max 1 (length g))) (free_nodes (length sigs - max 1 (length g)) (max 1 (length g)))
      ≡ group_links sigs links g
  written =
      let l : List ℕ = set (set links 2 (group_reference B g 1)) 3 (free_from B from) in
      let n : length l ≡ length links = simp length-set in
      let m : position_at B 1 + length (tree ++ free) ≡ length l = omega (arith, nodes_room, fits.links_long, fits.blocks_from) in
      let a : sets (sets l (position_at B 1) tree) (position_at B from) free ≡ sets l (position_at B 1) (tree ++ free) =
      ap (λ (k : ℕ). sets (sets l (position_at B 1) tree) k free) (sym tree_ends) ∙ sym (sets_append l (position_at B 1) tree free) in
      let b : sets l (position_at B 1) (tree ++ free) ≡ take (position_at B 1) l ++ (tree ++ free) ++ drop (position_at B 1 + length (tree ++ free)) l = sets-eq (tree ++ free) l (position_at B 1) (omega arith) in
      let z : drop (position_at B 1 + length (tree ++ free)) l ≡ [] = drop_of_length-le l {i = position_at B 1 + length (tree ++ free)} (omega arith) in
      a ∙ b ∙ ap₂ (λ (x y : List ℕ). x ++ (tree ++ free) ++ y) (ap (λ (k : ℕ). take k l) at ∙ front links (group_reference B g 1) (free_from B from) (2 * B) (omega (arith, fits.links_long, fits.blocks_from)) ∙ told) z
      ∙ append-nil (header ++ rows ++ (tree ++ free)) ∙ sym laid
    where
      at : position_at B 1 ≡ 2 * B + 5
      at = omega arith

      told : width_of links ∷ told_blocks links ∷ group_reference B g 1 ∷ free_from B from ∷ count_of links ∷ rows ≡ header ++ rows
      told = ap (λ (x : ℕ). width_of links ∷ x ∷ group_reference B g 1 ∷ free_from B from ∷ count_of links ∷ rows) fits.told_word
