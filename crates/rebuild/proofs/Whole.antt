-- What the steps of `rebuild_sound` ask and leave: the scratch starts with the heads, which are a group, and the stores one after the
-- other are the links of the definition.
-- Assumes nothing.
use Prim.Native.Nat.{ℕ, zero, suc, ◌+◌, ◌-◌, ◌≤◌, max}
use native.Mathlib.Omega.{arith}
use mathlib.Core.Path.{◌≡◌, refl, sym, ◌∙◌, ap, ap₂, subst}
use mathlib.Core.List.{List, [], ◌∷◌, ◌++◌, Memᴰ}
use lib.ListN.{length, get_or, set, take, drop, length-set, length-append, length-drop}
use lib.Seq.{sets, sets-eq, length-sets, length-take-le, take_at, drop_at, drop-drop, get_or-take}
use Rattle.model.specs.Tables.{position_at, width_of, root_of}
use Rattle.model.specs.Packed.{unpacked, Packs}
use Rattle.model.proofs.Packing.{row_store, front_word}
use Rattle.model.specs.Sound.{Sound}
use Rattle.model.specs.Clear.{free_from, free_nodes}
use Rattle.model.specs.Rebuild.{heads_from, heads_of, group_reference, group_nodes, rebuild_links}
use Rattle.split.specs.Split.{Blocks, Group, reference_to}
use Rattle.split.proofs.Nodes.{reference_by}
use Rattle.rebuild.specs.Walkable.{Walkable}
use Rattle.rebuild.proofs.Collecting.{sound_walk}
use Rattle.rebuild.proofs.Laid.{written}
use Rattle.rebuild.proofs.Rebuilt.{all_below, HeadsGroup, heads_group}

-- a run of stores at the front: it stands there, and the rest is as it was
sets_front : (l xs : List ℕ) → length xs ≤ length l → take (length xs) (sets l 0 xs) ≡ xs
sets_front l xs h = rw (sets-eq xs l 0 (omega arith)) (take_at xs (drop (0 + length xs) l) (length xs) refl)

sets_rest : (l xs : List ℕ) → length xs ≤ length l → drop (length xs) (sets l 0 xs) ≡ drop (length xs) l
sets_rest l xs h =
    let e : 0 + length xs ≡ length xs = omega arith in
    rw (sets-eq xs l 0 (omega arith)) (drop_at xs (drop (0 + length xs) l) (length xs) refl ∙ ap (λ (n : ℕ). drop n l) e)

-- where two lists are the same from d on, they are so later
drop_later : (d n : ℕ) (a b : List ℕ) → d ≤ n → drop d a ≡ drop d b → drop n a ≡ drop n b
drop_later d n a b h e =
    let q : d + (n - d) ≡ n = omega arith in
    ap (λ (k : ℕ). drop k a) (sym q) ∙ sym (drop-drop (n - d) d a) ∙ ap (drop (n - d)) e ∙ drop-drop (n - d) d b ∙ ap (λ (k : ℕ). drop k b) q

-- members that are blocks
all_blocks : (B : ℕ) (l : List ℕ) → ((b : ℕ) → Memᴰ b l → (1 ≤ b) × (b ≤ B)) → Blocks B l
unfolding Blocks
all_blocks B [] h i p = absurd (omega arith)
all_blocks B (x ∷ l) h zero p = h x (Memᴰ.head refl)
all_blocks B (x ∷ l) h (suc i) p = all_blocks B l (λ b m. h b (Memᴰ.tail m)) i (omega arith)

-- a reference looks at the head only where there is one
reference_head : (n x y node : ℕ) → (1 ≤ n → x ≡ y) → reference_to n x node ≡ reference_to n y node
unfolding reference_to
reference_head zero x y node h = refl
reference_head (suc zero) x y node h = h (omega arith)
reference_head (suc (suc n)) x y node h = refl

pub heads_fit : (sigs links : List ℕ) → Sound sigs links → length (heads_of sigs links) ≤ length sigs
heads_fit sigs links S = (heads_group sigs links S).few

-- sound tables whose heads are collected: d of them, in the front of the scratch, which was l and is l1
pub record Collected (sigs links l l1 : List ℕ) (d : ℕ) : Type 0 where
  pub sound : Sound sigs links
  pub room : length sigs ≤ length l
  pub count : d ≡ 0 + length (heads_of sigs links)
  pub list : l1 ≡ sets l 0 (heads_of sigs links)

module _ {sigs links l l1 : List ℕ} {d : ℕ} (K : Collected sigs links l l1 d) where
  abbrev B : ℕ
  B = length sigs

  abbrev F : ℕ
  F = width_of links

  abbrev heads : List ℕ
  heads = heads_of sigs links

  abbrev S : Sound sigs links
  S = K.sound

  G : HeadsGroup sigs links S
  G = heads_group sigs links S

  count : d ≡ length heads
  count = omega (arith, K.count)

  pub few : d ≤ length sigs
  few = omega (arith, G.few, count)

  long : length l1 ≡ length l
  long = ap length K.list ∙ length-sets l 0 heads

  pub fits : d ≤ length l1
  fits = omega (arith, few, long, K.room)

  collected : take d l1 ≡ heads
  collected = rw (K.list, count) (sets_front l heads (omega (arith, G.few, K.room)))

  group : Group F sigs heads
  group = record { from = S.fits.width_from; to = S.fits.width_to; blocks = all_blocks B heads G.blocks; below = all_below sigs links S; apart = G.apart }

  -- what the call that builds the tree asks
  build_asks : Group (width_of links) sigs (take d l1) × ((1 ≤ 1) × (1 + length (take d l1) ≤ length sigs + 1))
  build_asks =
      let n = length-take-le d l1 fits in
      (rw collected group, omega (arith, few))

  -- the root's reference
  root : reference_to d (get_or l1 0 0) (length sigs + 1) ≡ group_reference (length sigs) (heads_of sigs links) 1
  root =
      reference_head d (get_or l1 0 0) (get_or heads 0 0) (B + 1) (λ h. sym (get_or-take d l1 0 0 h) ∙ ap (λ (k : List ℕ). get_or k 0 0) collected)
      ∙ ap (λ (n : ℕ). reference_to n (get_or heads 0 0) (B + 1)) count
      ∙ sym (reference_by B heads 1)

  -- the scratch is as long, and its later words are as they were
  pub as_long : (ys : List ℕ) → length ys ≡ length (take d l1) → length (ys ++ drop d l1) ≡ length l
  as_long ys e =
      let n = length-take-le d l1 fits in
      let f = fits in
      let m = long in
      simp (length-append, length-drop) (omega arith)

  pub beyond : (ys : List ℕ) → length ys ≡ length (take d l1) → drop (length sigs) (ys ++ drop d l1) ≡ drop (length sigs) l
  beyond ys e =
      let r : drop d l1 ≡ drop d l = rw (K.list, count) (sets_rest l heads (omega (arith, G.few, K.room))) in
      drop_later d B (ys ++ drop d l1) l few (drop_at ys (drop d l1) d (e ∙ length-take-le d l1 fits) ∙ r)

  -- the links at the end
  pub whole : (first reference free : ℕ) (built final : List ℕ) → first ≡ max 1 d → reference ≡ reference_to d (get_or l1 0 0) (length sigs + 1) → free ≡ free_from (length sigs) first
      → built ≡ sets (set (set links 2 reference) 3 free) (position_at (length sigs) 1) (group_nodes (length (take d l1)) (width_of links) sigs (take d l1) 1)
      → final ≡ sets built (position_at (length sigs) first) (free_nodes (length sigs - first) first) → final ≡ rebuild_links sigs links
  whole first reference free built final ef er ez eb e =
      let f : first ≡ max 1 (length heads) = ef ∙ ap (max 1) count in
      let r : reference ≡ group_reference B heads 1 = er ∙ root in
      let z : free ≡ free_from B (max 1 (length heads)) = ez ∙ ap (free_from B) f in
      let b : built ≡ sets (set (set links 2 (group_reference B heads 1)) 3 (free_from B (max 1 (length heads)))) (position_at B 1) (group_nodes (length heads) F sigs heads 1) =
      eb ∙ ap (λ (k : List ℕ). sets (set (set links 2 reference) 3 free) (position_at B 1) (group_nodes (length k) F sigs k 1)) collected ∙ (cc) in
      e ∙ ap (λ (n : ℕ). sets built (position_at B n) (free_nodes (B - n) n)) f
      ∙ ap (λ (k : List ℕ). sets k (position_at B (max 1 (length heads))) (free_nodes (B - max 1 (length heads)) (max 1 (length heads)))) b
      ∙ written sigs links heads S.fits (all_below sigs links S) G.apart G.few

-- the same of packed tables, with the width and the root as they are read
module _ (sigs links nodes : List ℕ) (P : Packs (length sigs) links nodes) where
  abbrev U : List ℕ
  U = unpacked links nodes

  pub width_read : width_of (unpacked links nodes) ≡ width_of links
  width_read = front_word (length sigs) links nodes P 0 (omega arith)

  pub heads_read : heads_from (length sigs) (unpacked links nodes) (width_of links) (root_of links) ≡ heads_of sigs (unpacked links nodes)
  heads_read = ap₂ (λ (F r : ℕ). heads_from (length sigs) U F r) (sym width_read) (sym (front_word (length sigs) links nodes P 2 (omega arith)))

  pub gathered : Sound sigs U → (l l1 : List ℕ) (d : ℕ) → length sigs ≤ length l → d ≡ 0 + length (heads_from (length sigs) U (width_of links) (root_of links))
      → l1 ≡ sets l 0 (heads_from (length sigs) U (width_of links) (root_of links)) → Collected sigs U l l1 d
  gathered S l l1 d room count list = record {
    sound = S;
    room = room;
    count = count ∙ ap (λ (h : List ℕ). 0 + length h) heads_read;
    list = list ∙ ap (sets l 0) heads_read;
  }

  pub walk_read : Sound sigs (unpacked links nodes) → Walkable (length sigs) (unpacked links nodes) (width_of links) (root_of links)
  walk_read S = rw (← width_read, ← front_word (length sigs) links nodes P 2 (omega arith)) (sound_walk sigs U S)

  module _ {l l1 : List ℕ} {d : ℕ} (K : Collected sigs (unpacked links nodes) l l1 d) where
    pub asks_packed : Group (width_of links) sigs (take d l1) × ((1 ≤ 1) × (1 + length (take d l1) ≤ length sigs + 1))
    asks_packed =
        let a = build_asks K in
        (subst (λ (F : ℕ). Group F sigs (take d l1)) width_read a.0, a.1)

    -- by the number of blocks b that the code has
    pub whole_packed : (b : ℕ) → length sigs ≡ b → (first reference free : ℕ) (l₂ n₁ n₂ : List ℕ) → first ≡ max 1 d → reference ≡ reference_to d (get_or l1 0 0) (b + 1) → free ≡ free_from b first
        → l₂ ≡ set (set links 2 reference) 3 free
        → unpacked l₂ n₁ ≡ sets (unpacked l₂ nodes) (position_at (length sigs) 1) (group_nodes (length (take d l1)) (width_of links) sigs (take d l1) 1)
        → unpacked l₂ n₂ ≡ sets (unpacked l₂ n₁) (position_at b first) (free_nodes (b - first) first) → unpacked l₂ n₂ ≡ rebuild_links sigs (unpacked links nodes)
    whole_packed b n first reference free l₂ n₁ n₂ ef er ez el e₁ e₂ =
        let m = sym n in
        let a : unpacked l₂ nodes ≡ set (set U 2 reference) 3 free =
        ap (λ (x : List ℕ). unpacked x nodes) el
        ∙ sym (row_store (set links 2 reference) nodes 3 free (simp length-set (omega (arith, P.rows_long))))
        ∙ ap (λ (x : List ℕ). set x 3 free) (sym (row_store links nodes 2 reference (omega (arith, P.rows_long)))) in
        whole K first reference free (unpacked l₂ n₁) (unpacked l₂ n₂) ef (er ∙ ap (λ (k : ℕ). reference_to d (get_or l1 0 0) (k + 1)) m) (ez ∙ ap (λ (k : ℕ). free_from k first) m)
        (e₁ ∙ ap₂ (λ (x : List ℕ) (F : ℕ). sets x (position_at (length sigs) 1) (group_nodes (length (take d l1)) F sigs (take d l1) 1)) a (sym width_read))
        (e₂ ∙ ap (λ (k : ℕ). sets (unpacked l₂ n₁) (position_at k first) (free_nodes (k - first) first)) m)
