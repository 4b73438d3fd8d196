-- The laws of packing: a word is its parts, where the words of the tables stand in the packed slices, what a store there is to the
-- tables, that packing and unpacking undo each other, and what packed tables whose lengths fit say of themselves.
-- Assumes nothing.
use Prim.Native.Nat.{ℕ, zero, suc, ◌+◌, ◌-◌, ◌*◌, ◌^◌, ◌≤◌, ◌<◌}
use native.Mathlib.Decide.{ℕ_discrete}
use native.Mathlib.Omega.{arith}
use mathlib.Core.Path.{◌≡◌, refl, sym, ◌∙◌, ap, ap₂}
use mathlib.Core.Bool.{Bool, true, false, ◌&&◌}
use mathlib.Core.List.{List, [], ◌∷◌, ◌++◌}
use lib.Dec.{eqb}
use lib.ListN.{length, get_or, set, take, drop, length-append, get_or-append, take-append-drop, length-drop}
use lib.Seq.{get_or-append-add, set-append_left, take_at, drop_at}
use borrow.Author.Tests.{le-leb, eq-eqb, eqb-true}
use Rattle.model.specs.Limits.{most_blocks}
use Rattle.model.specs.Tables.{width_of, blocks_of, word, position_at, left_at, right_at, links_of, position_of, left_of, right_of}
use Rattle.model.specs.Stores.{◌↤◌, stores}
use Rattle.model.specs.Packed.{node_word, position_in, left_in, right_in, part_in, with_part, Packs, opened, closed, rows_of, packed_blocks, unpacked, packed_links, packed_nodes}
use Rattle.model.specs.Questions.{asks_tables, blocks_fit}
use Rattle.model.specs.PackedPromises.{packed_fit, asks_packed}
use Rattle.model.proofs.Asking.{both, in_range}

-- a word is its parts
pub whole_word : (w : ℕ) → node_word (position_in w) (left_in w) (right_in w) ≡ w
whole_word w = omega arith

pub word_position : (p l r : ℕ) → l < 2 ^ 17 → r < 2 ^ 17 → position_in (node_word p l r) ≡ p
word_position p l r a b = omega arith

pub word_left : (p l r : ℕ) → l < 2 ^ 17 → r < 2 ^ 17 → left_in (node_word p l r) ≡ l
word_left p l r a b = omega arith

pub word_right : (p l r : ℕ) → l < 2 ^ 17 → r < 2 ^ 17 → right_in (node_word p l r) ≡ r
word_right p l r a b = omega arith

with_last : (w v k : ℕ) → 2 ≤ k → with_part w k v ≡ node_word (position_in w) (left_in w) v
unfolding with_part
with_last w v zero h = absurd (omega arith)
with_last w v (suc zero) h = absurd (omega arith)
with_last w v (suc (suc k)) h = refl

part_last : (w k : ℕ) → 2 ≤ k → part_in w k ≡ right_in w
unfolding part_in
part_last w zero h = absurd (omega arith)
part_last w (suc zero) h = absurd (omega arith)
part_last w (suc (suc k)) h = refl

-- the parts by number, and a changed one
module _ (w k : ℕ) where
  pub part_left : k ≡ 1 → part_in w k ≡ left_in w
  unfolding part_in
  part_left e = rw e

  pub part_right : 2 ≤ k → part_in w k ≡ right_in w
  part_right h = part_last w k h

  -- a side fits a side
  pub part_below : 1 ≤ k → part_in w k < 2 ^ 17
  part_below h = go (ℕ_discrete k 1)
    where
      go : Dec (k ≡ 1) → part_in w k < 2 ^ 17
      go (yes e) = rw (part_left e) (omega arith)
      go (no n) = rw (part_right (omega arith)) (omega arith)

  module _ (v x y : ℕ) where
    pub with_position : k ≡ 0 → x ≡ left_in w → y ≡ right_in w → node_word v x y ≡ with_part w k v
    unfolding with_part
    with_position e a b = rw (e, a, b)

    pub with_left : k ≡ 1 → x ≡ position_in w → y ≡ right_in w → node_word x v y ≡ with_part w k v
    unfolding with_part
    with_left e a b = rw (e, a, b)

    pub with_right : 2 ≤ k → x ≡ position_in w → y ≡ left_in w → node_word x y v ≡ with_part w k v
    with_right h a b = rw (a, b) (sym (with_last w v k h))

-- the words of node i, counted from 0, among the nodes' words
pub length_opened : (ws : List ℕ) → length (opened ws) ≡ 3 * length ws
unfolding opened
length_opened [] = refl
length_opened (w ∷ ws) = omega (arith, length_opened ws)

opened_at : (k : ℕ) → k ≤ 2 → (ws : List ℕ) (i a : ℕ) → a ≡ 3 * i + k → get_or (opened ws) a 0 ≡ part_in (get_or ws i 0) k
unfolding opened part_in
opened_at zero h [] i a e = refl
opened_at (suc zero) h [] i a e = refl
opened_at (suc (suc k)) h [] i a e = refl
opened_at zero h (w ∷ ws) zero a e = rw e
opened_at (suc zero) h (w ∷ ws) zero a e = rw e
opened_at (suc (suc zero)) h (w ∷ ws) zero a e = rw e
opened_at (suc (suc (suc k))) h (w ∷ ws) zero a e = absurd (omega arith)
opened_at k h (w ∷ ws) (suc i) zero e = absurd (omega arith)
opened_at k h (w ∷ ws) (suc i) (suc zero) e = absurd (omega arith)
opened_at k h (w ∷ ws) (suc i) (suc (suc zero)) e = absurd (omega arith)
opened_at k h (w ∷ ws) (suc i) (suc (suc (suc a))) e = opened_at k h ws i a (omega arith)

-- all three words of node i
opened_set : (ws : List ℕ) (i a p l r : ℕ) → a ≡ 3 * i → i < length ws → l < 2 ^ 17 → r < 2 ^ 17
    → set (set (set (opened ws) a p) (suc a) l) (suc (suc a)) r ≡ opened (set ws i (node_word p l r))
unfolding opened
opened_set [] i a p l r e h x y = absurd (omega arith)
opened_set (w ∷ ws) zero a p l r e h x y = rw (e, word_position p l r x y, word_left p l r x y, word_right p l r x y)
opened_set (w ∷ ws) (suc i) zero p l r e h x y = absurd (omega arith)
opened_set (w ∷ ws) (suc i) (suc zero) p l r e h x y = absurd (omega arith)
opened_set (w ∷ ws) (suc i) (suc (suc zero)) p l r e h x y = absurd (omega arith)
opened_set (w ∷ ws) (suc i) (suc (suc (suc a))) p l r e h x y =
    ap (λ (t : List ℕ). position_in w ∷ left_in w ∷ right_in w ∷ t) (opened_set ws i a p l r (omega arith) (omega arith) x y)

-- part k of node i
opened_part : (ws : List ℕ) (i a k v : ℕ) → a ≡ 3 * i + k → k ≤ 2 → i < length ws → v < 2 ^ 17
    → set (opened ws) a v ≡ opened (set ws i (with_part (get_or ws i 0) k v))
unfolding opened with_part
opened_part [] i a k v e h x y = absurd (omega arith)
opened_part (w ∷ ws) zero a zero v e h x y =
    let l : left_in w < 2 ^ 17 = omega arith in
    let r : right_in w < 2 ^ 17 = omega arith in
    rw (e, word_position v (left_in w) (right_in w) l r, word_left v (left_in w) (right_in w) l r, word_right v (left_in w) (right_in w) l r)
opened_part (w ∷ ws) zero a (suc zero) v e h x y =
    let r : right_in w < 2 ^ 17 = omega arith in
    rw (e, word_position (position_in w) v (right_in w) y r, word_left (position_in w) v (right_in w) y r, word_right (position_in w) v (right_in w) y r)
opened_part (w ∷ ws) zero a (suc (suc zero)) v e h x y =
    let l : left_in w < 2 ^ 17 = omega arith in
    rw (e, word_position (position_in w) (left_in w) v l y, word_left (position_in w) (left_in w) v l y, word_right (position_in w) (left_in w) v l y)
opened_part (w ∷ ws) zero a (suc (suc (suc k))) v e h x y = absurd (omega arith)
opened_part (w ∷ ws) (suc i) zero k v e h x y = absurd (omega arith)
opened_part (w ∷ ws) (suc i) (suc zero) k v e h x y = absurd (omega arith)
opened_part (w ∷ ws) (suc i) (suc (suc zero)) k v e h x y = absurd (omega arith)
opened_part (w ∷ ws) (suc i) (suc (suc (suc a))) k v e h x y =
    ap (λ (t : List ℕ). position_in w ∷ left_in w ∷ right_in w ∷ t) (opened_part ws i a k v (omega arith) h (omega arith) y)

-- opened and closed undo each other: on any words, and on words that fit their places
pub closed_opened : (ws : List ℕ) → closed (opened ws) ≡ ws
unfolding opened closed
closed_opened [] = refl
closed_opened (w ∷ ws) = ap₂ (λ (x : ℕ) (xs : List ℕ). x ∷ xs) (whole_word w) (closed_opened ws)

-- words that fit a node's word: left and right are below 2 ^ 17
abbrev pub Small : List ℕ → Type 0
Small [] = Unit {0}
Small (p ∷ []) = Unit {0}
Small (p ∷ l ∷ []) = Unit {0}
Small (p ∷ l ∷ r ∷ ws) = (l < 2 ^ 17) × (r < 2 ^ 17) × Small ws

pub opened_closed : (n : ℕ) (ws : List ℕ) → length ws ≡ 3 * n → Small ws → opened (closed ws) ≡ ws
unfolding opened closed
opened_closed n [] e s = refl
opened_closed zero (p ∷ ws) e s = absurd (omega arith)
opened_closed (suc n) (p ∷ []) e s = absurd (omega arith)
opened_closed (suc n) (p ∷ l ∷ []) e s = absurd (omega arith)
opened_closed (suc n) (p ∷ l ∷ r ∷ ws) e s =
    rw (word_position p l r s.0 s.1, word_left p l r s.0 s.1, word_right p l r s.0 s.1, opened_closed n ws (omega arith) s.2)

module _ (links nodes : List ℕ) where
  pub long_unpacked : length (unpacked links nodes) ≡ length links + 3 * length nodes
  unfolding unpacked
  long_unpacked = length-append links (opened nodes) ∙ ap (λ (n : ℕ). length links + n) (length_opened nodes)

  -- the five words and the rows
  pub row_word : (a : ℕ) → a < length links → word (unpacked links nodes) a ≡ word links a
  unfolding unpacked
  row_word a h = get_or-append links (opened nodes) 0 a h

  pub row_store : (a v : ℕ) → a < length links → set (unpacked links nodes) a v ≡ unpacked (set links a v) nodes
  unfolding unpacked
  row_store a v h = set-append_left links (opened nodes) a v h

  -- beyond them
  beyond : (a k : ℕ) → a ≡ length links + k → word (unpacked links nodes) a ≡ get_or (opened nodes) k 0
  unfolding unpacked
  beyond a k e = rw e (get_or-append-add links (opened nodes) k 0)

set_beyond : (xs ys : List ℕ) (a k v : ℕ) → a ≡ length xs + k → set (xs ++ ys) a v ≡ xs ++ set ys k v
set_beyond [] ys a k v e = ap (λ (n : ℕ). set ys n v) (let z : a ≡ k = omega arith in z)
set_beyond (x ∷ xs) ys zero k v e = absurd (omega arith)
set_beyond (x ∷ xs) ys (suc a) k v e = ap (λ (t : List ℕ). x ∷ t) (set_beyond xs ys a k v (omega arith))

module _ (B : ℕ) (links nodes : List ℕ) (P : Packs B links nodes) where
  pub long_packs : length (unpacked links nodes) ≡ links_of B
  long_packs = omega (arith, long_unpacked links nodes, P.rows_long, P.nodes_long)

  -- the five words in front
  pub front_word : (a : ℕ) → a < 5 → word (unpacked links nodes) a ≡ word links a
  front_word a h = row_word links nodes a (omega (arith, P.rows_long))

  -- the words of node i
  pub node_position : (i : ℕ) → 1 ≤ i → position_of B (unpacked links nodes) i ≡ position_in (get_or nodes (i - 1) 0)
  unfolding part_in
  node_position i h = beyond links nodes (position_at B i) (3 * (i - 1)) (omega (arith, P.rows_long)) ∙ opened_at 0 (omega arith) nodes (i - 1) (3 * (i - 1)) (omega arith)

  pub node_left : (i : ℕ) → 1 ≤ i → left_of B (unpacked links nodes) i ≡ left_in (get_or nodes (i - 1) 0)
  unfolding part_in
  node_left i h = beyond links nodes (left_at B i) (3 * (i - 1) + 1) (omega (arith, P.rows_long)) ∙ opened_at 1 (omega arith) nodes (i - 1) (3 * (i - 1) + 1) (omega arith)

  pub node_right : (i : ℕ) → 1 ≤ i → right_of B (unpacked links nodes) i ≡ right_in (get_or nodes (i - 1) 0)
  unfolding part_in
  node_right i h = beyond links nodes (right_at B i) (3 * (i - 1) + 2) (omega (arith, P.rows_long)) ∙ opened_at 2 (omega arith) nodes (i - 1) (3 * (i - 1) + 2) (omega arith)

  -- a store of all of node i, and of one side
  pub node_store : (i p l r : ℕ) → 1 ≤ i → i < B → l < 2 ^ 17 → r < 2 ^ 17
      → stores (unpacked links nodes) ((position_at B i ↤ p) ∷ (left_at B i ↤ l) ∷ (right_at B i ↤ r) ∷ []) ≡ unpacked links (set nodes (i - 1) (node_word p l r))
  unfolding unpacked
  node_store i p l r h k x y =
      let n = 3 * (i - 1) in
      let a : position_at B i ≡ length links + n = omega (arith, P.rows_long) in
      let b : left_at B i ≡ length links + suc n = omega (arith, P.rows_long) in
      let c : right_at B i ≡ length links + suc (suc n) = omega (arith, P.rows_long) in
      ap (λ (t : List ℕ). set (set t (left_at B i) l) (right_at B i) r) (set_beyond links (opened nodes) (position_at B i) n p a)
      ∙ ap (λ (t : List ℕ). set t (right_at B i) r) (set_beyond links (set (opened nodes) n p) (left_at B i) (suc n) l b)
      ∙ set_beyond links (set (set (opened nodes) n p) (suc n) l) (right_at B i) (suc (suc n)) r c
      ∙ ap (λ (t : List ℕ). links ++ t) (opened_set nodes (i - 1) n p l r refl (omega (arith, P.nodes_long)) x y)

  -- the same by the place among the nodes' words: node j, counted from 0, and part k
  pub part_word : (j k : ℕ) → k ≤ 2 → word (unpacked links nodes) (rows_of B + 3 * j + k) ≡ part_in (get_or nodes j 0) k
  part_word j k h = beyond links nodes (rows_of B + 3 * j + k) (3 * j + k) (omega (arith, P.rows_long)) ∙ opened_at k h nodes j (3 * j + k) refl

  pub part_store : (j k v : ℕ) → k ≤ 2 → j + 1 < B → v < 2 ^ 17
      → set (unpacked links nodes) (rows_of B + 3 * j + k) v ≡ unpacked links (set nodes j (with_part (get_or nodes j 0) k v))
  unfolding unpacked
  part_store j k v x h y =
      set_beyond links (opened nodes) (rows_of B + 3 * j + k) (3 * j + k) v (omega (arith, P.rows_long))
      ∙ ap (λ (t : List ℕ). links ++ t) (opened_part nodes j (3 * j + k) k v refl x (omega (arith, P.nodes_long)) y)

  -- unpacked and packed again
  pub packed_links_is : packed_links B (unpacked links nodes) ≡ links
  unfolding unpacked
  packed_links_is = take_at links (opened nodes) (rows_of B) P.rows_long

  pub packed_nodes_is : packed_nodes B (unpacked links nodes) ≡ nodes
  unfolding unpacked
  packed_nodes_is = ap closed (drop_at links (opened nodes) (rows_of B) P.rows_long) ∙ closed_opened nodes

-- packed and unpacked again, where the words fit
pub unpacked_packed : (B : ℕ) (links : List ℕ) → 1 ≤ B → length links ≡ links_of B → Small (drop (rows_of B) links)
    → unpacked (packed_links B links) (packed_nodes B links) ≡ links
unfolding unpacked
unpacked_packed B links h e s =
    ap (λ (t : List ℕ). take (rows_of B) links ++ t) (opened_closed (B - 1) (drop (rows_of B) links) (let l = length-drop (rows_of B) links in omega arith) s)
    ∙ take-append-drop (rows_of B) links

-- ---- how many blocks there are, and question 4

-- links of a fitting length tell B, and so do packed ones
pub blocks_told : (links : List ℕ) (B : ℕ) → length links ≡ links_of B → blocks_of links ≡ B
blocks_told links B e = omega arith

pub packed_told : (links : List ℕ) (B : ℕ) → length links ≡ rows_of B → packed_blocks links ≡ B
packed_told links B e = omega arith

-- the tables that packed ones hold tell the same B, and the same width
pub unpacked_told : (B : ℕ) (links nodes : List ℕ) → Packs B links nodes → blocks_of (unpacked links nodes) ≡ B
unpacked_told B links nodes P = blocks_told (unpacked links nodes) B (long_packs B links nodes P)

pub unpacked_width : (B : ℕ) (links nodes : List ℕ) → Packs B links nodes → width_of (unpacked links nodes) ≡ width_of links
unpacked_width B links nodes P = front_word B links nodes P 0 (omega arith)

-- packed tables whose lengths fit
module _ (links nodes : List ℕ) (f : packed_fit links nodes ≡ true) where
  halves : ((blocks_fit (packed_blocks links) && eqb (length links) (rows_of (packed_blocks links))) ≡ true) × (eqb (length nodes) (packed_blocks links - 1) ≡ true)
  halves = both {t = blocks_fit (packed_blocks links) && eqb (length links) (rows_of (packed_blocks links))} f

  pub fit_range : (1 ≤ packed_blocks links) × (packed_blocks links ≤ most_blocks)
  fit_range = in_range (packed_blocks links) most_blocks (both {t = blocks_fit (packed_blocks links)} halves.0).0

  pub fit_packs : Packs (packed_blocks links) links nodes
  fit_packs =
      let n = eqb-true (length nodes) (packed_blocks links - 1) halves.1 in
      let h = fit_range.0 in
      record { rows_long = eqb-true _ _ (both {t = blocks_fit (packed_blocks links)} halves.0).1; nodes_long = omega arith }

  pub fit_told : blocks_of (unpacked links nodes) ≡ packed_blocks links
  fit_told = unpacked_told (packed_blocks links) links nodes fit_packs

  pub fit_width : width_of (unpacked links nodes) ≡ width_of links
  fit_width = unpacked_width (packed_blocks links) links nodes fit_packs

  pub fit_lengths : (words : List ℕ) → (asks_tables words (unpacked links nodes)).lengths ≡ true
  fit_lengths words =
      let l = long_packs (packed_blocks links) links nodes fit_packs in
      rw (fit_told, le-leb 1 (packed_blocks links) fit_range.0, le-leb (packed_blocks links) most_blocks fit_range.1, eq-eqb (length (unpacked links nodes)) (links_of (packed_blocks links)) l)

  -- they say what the tables say that they hold
  pub packed_asks : (words : List ℕ) → asks_packed words links nodes ≡ asks_tables words (unpacked links nodes)
  packed_asks words =
      let A = asks_tables words (unpacked links nodes) in
      ap (λ (t : Bool). record { lengths = t && A.lengths; lent = A.lent; words = A.words; width = A.width; blocks = A.blocks; filed = A.filed }) f

-- and the other way: slices that are as long fit
pub packs_fit : (B : ℕ) (links nodes : List ℕ) → 1 ≤ B → B ≤ most_blocks → Packs B links nodes → packed_fit links nodes ≡ true
packs_fit B links nodes h k P =
    let n : length nodes ≡ B - 1 = omega (arith, P.nodes_long) in
    rw (packed_told links B P.rows_long, le-leb 1 B h, le-leb B most_blocks k, eq-eqb (length links) (rows_of B) P.rows_long, eq-eqb (length nodes) (B - 1) n)

-- lengths that fit go on fitting while the slices stay as long
pub fit_stays : (links nodes links' nodes' : List ℕ) → length links' ≡ length links → length nodes' ≡ length nodes → packed_fit links nodes ≡ true → packed_fit links' nodes' ≡ true
fit_stays links nodes links' nodes' l n f = rw (l, n) f

-- lengths that do not fit, and what they say
pub unfit_asks : (words links nodes : List ℕ) → packed_fit links nodes ≡ false → (asks_packed words links nodes).lengths ≡ false
unfit_asks words links nodes f = rw f
