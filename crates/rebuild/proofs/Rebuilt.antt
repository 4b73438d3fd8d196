-- Rebuild keeps sound tables sound, and its tree is made anew from the stored signatures. The heads of the old tree are a group of
-- distinct signatures; the links laid of it spell the shape of its splits, and rows, count and signatures stay.
-- Assumes nothing.
use Prim.Native.Nat.{ℕ, suc, ◌-◌, ◌^◌, ◌≤◌, ◌<◌, max}
use native.Mathlib.Decide.{dec_lt}
use native.Mathlib.Omega.{arith}
use mathlib.Core.Path.{◌≡◌, refl, sym, ◌∙◌, subst}
use mathlib.Core.Logic.{◌⊎◌, inl, inr}
use mathlib.Core.List.Memᴰ
use mathlib.Core.List.{List, [], ◌∷◌, map, Memᴰ}
use lib.ListN.{length, get_or, length-map, get_or-eq_default}
use lib.Pow.{pow_pos}
use Rattle.model.specs.Basics.{up_from}
use Rattle.model.specs.Tree.{Tree, nothing, signatures}
use Rattle.model.specs.Build.{build, build_within}
use Rattle.model.specs.Tables.{position_at, next_at, filed_at, width_of, root_of, free_of, next_of, filed_of, signature_of, tree_of}
use Rattle.model.specs.Sound.{Rooted, none, some, HoldsRoot, PlacedRoot, nodes_in, blocks_in, FitsAt, SoundAt, Sound}
use Rattle.model.specs.Clear.{free_nodes}
use Rattle.model.specs.Rebuild.{heads_from, heads_of, group_nodes, group_links}
use Rattle.model.proofs.Keep.{up_from_has, up_from_range}
use Rattle.model.proofs.Members.{Same}
use Rattle.tables.proofs.Shapes.{chain_same, chain_range}
use Rattle.tables.proofs.Counts.{heads, filed_same}
use Rattle.tables.proofs.Trees.{depth_root, shape_tree, tree_rooted, tree_of_sound}
use Rattle.split.specs.Split.{Apart, Below}
use Rattle.tables.proofs.Spelled.{Spells, spells_append, free_chain}
use Rattle.rebuild.proofs.Laid.{tree_ends, laid_long, laid_width, laid_told, laid_root, laid_free, laid_count, laid_row, laid_nodes}
use Rattle.rebuild.proofs.Heads.{Heads, heads_some, heads_from_shape, heads_from_none, chain_in, heads_apart, heads_chains, heads_cover, heads_few}
use Rattle.rebuild.proofs.Shaped.{shape_of, nodes_order, heads_stay, blocks_all, holds_shape, placed_shape}
use Rattle.rebuild.proofs.Tree.{signatures_heads, tree_shape}

-- a chain whose rows are as they were
heads_moved : (B : ℕ) (sigs L L' : List ℕ) → ((c : ℕ) → 1 ≤ c → c ≤ B → (next_of L' c ≡ next_of L c) × (filed_of L' c ≡ filed_of L c))
    → (b : ℕ) (cs : List ℕ) → Heads B sigs L b cs → Heads B sigs L' b cs
heads_moved B sigs L L' o b cs H =
    record {
      from = H.from;
      to = H.to;
      chain = chain_same B L L' b cs (λ c m. let r = range c (Memᴰ.cases_cons m) in (o c r.0 r.1).0) H.chain;
      alike = λ c m. let r = range c (Memᴰ.cases_cons m) in ((o c r.0 r.1).1 ∙ (H.alike c m).0, (H.alike c m).1);
    }
  where
    range : (c : ℕ) → (c ≡ b) ⊎ Memᴰ c cs → (1 ≤ c) × (c ≤ B)
    range c (inl e) = omega (arith, H.from, H.to)
    range c (inr n) = chain_range B L b cs H.chain c n

module _ (sigs links : List ℕ) (S : Sound sigs links) where
  abbrev B : ℕ
  B = length sigs

  abbrev F : ℕ
  F = width_of links

  pub all_below : Below (width_of links) sigs
  unfolding Below
  all_below i = go (dec_lt i B)
    where
      go : Dec (i < B) → get_or sigs i 0 < 2 ^ F
      go (yes h) = let q : suc i - 1 ≡ i = omega arith in rw q at (S.narrow (suc i) (omega arith) (omega arith))
      go (no h) = subst (λ (x : ℕ). x < 2 ^ F) (sym (get_or-eq_default sigs 0 (omega arith))) (pow_pos F)

  -- the links laid of a group of heads g
  module _ (g : List ℕ) (apart : Apart sigs g) (few : length g ≤ length sigs) where
    abbrev after : List ℕ
    after = group_links sigs links g

    abbrev from : ℕ
    from = max 1 (length g)

    row : (c : ℕ) → 1 ≤ c → c ≤ B → (next_of after c ≡ next_of links c) × (filed_of after c ≡ filed_of links c)
    row c h h' = (laid_row sigs links g S.fits all_below apart few (next_at c) (omega arith) (omega arith), laid_row sigs links g S.fits all_below apart few (filed_at c) (omega arith) (omega arith))

    new_fits : FitsAt B F sigs after
    new_fits = record {
      blocks_from = S.fits.blocks_from;
      blocks_to = S.fits.blocks_to;
      sigs_long = refl;
      links_long = laid_long sigs links g S.fits all_below apart few;
      width_from = S.fits.width_from;
      width_to = S.fits.width_to;
      width_word = laid_width sigs links g S.fits all_below apart few;
      told_word = laid_told sigs links g S.fits all_below apart few;
    }

    words : Spells after (position_at B 1) (group_nodes (length g) F sigs g 1) × Spells after (position_at B from) (free_nodes (B - from) from)
    words =
        let s = spells_append after (position_at B 1) (group_nodes (length g) F sigs g 1) (free_nodes (B - from) from) (laid_nodes sigs links g S.fits all_below apart few) in
        (s.0, rw (tree_ends sigs links g S.fits all_below apart few) at s.1)

    -- a tree with nodes 1 and so on that the new links spell makes sound tables
    sound_with : (t : Rooted) → HoldsRoot B after (root_of after) t → PlacedRoot F sigs after t
        → ((b : ℕ) → 1 ≤ b → b ≤ B → filed_of links b ≡ 1 → Memᴰ b (blocks_in t)) → nodes_in t ≡ up_from (length g - 1) 1 → SoundAt B F sigs after
    sound_with t holds' placed' on numbered = record {
      fits = new_fits;
      tree = t;
      holds = holds';
      placed = placed';
      filed_bit = λ b h h'. omega (arith, (row b h h').1, S.filed_bit b h h');
      on_chain = λ b h h' e. on b h h' (sym (row b h h').1 ∙ e);
      counted = laid_count sigs links g S.fits all_below apart few ∙ S.counted ∙ sym (filed_same links after B (λ c h h'. (row c h h').1));
      blank = λ b h h' e. let z = S.blank b h h' (sym (row b h h').1 ∙ e) in ((row b h h').0 ∙ z.0, z.1);
      narrow = S.narrow;
      free = up_from (B - from) from;
      free_holds = free_chain B after (B - from) from (free_of after) (omega arith) (omega (arith, S.fits.blocks_from)) words.1 (laid_free sigs links g S.fits all_below apart few);
      free_outside = λ i m n. let a = up_from_range (B - from) from i m in let b = up_from_range (length g - 1) 1 i (rw numbered at n) in omega arith;
      free_all = λ i h h'. place i h h' (dec_lt i (length g));
    }
      where
        place : (i : ℕ) → 1 ≤ i → i < B → Dec (i < length g) → Memᴰ i (nodes_in t) ⊎ Memᴰ i (up_from (B - from) from)
        place i h h' (yes q) = inl (rw numbered (up_from_has (length g - 1) 1 i h (omega arith)))
        place i h h' (no q) = inr (up_from_has (B - from) from i (omega arith) (omega arith))

  -- sound tables with this tree, its nodes in order from 1 on, the rest free, ascending, and the heads as they were
  pub record Made (g : List ℕ) (t : Tree) : Type 0 where
    pub sound : SoundAt (length sigs) (width_of links) sigs (group_links sigs links g)
    pub tree : tree_rooted sigs sound.tree ≡ t
    pub numbered : nodes_in sound.tree ≡ up_from (length g - 1) 1
    pub free : sound.free ≡ up_from (length sigs - max 1 (length g)) (max 1 (length g))
    pub heads : Same (heads_from (length sigs) (group_links sigs links g) (width_of links) (root_of (group_links sigs links g))) g

  -- of a group with a head for every filed block
  made_group : (g : List ℕ) (ch : ℕ → List ℕ) → Apart sigs g → length g ≤ B → 1 ≤ length g → ((b : ℕ) → Memᴰ b g → Heads B sigs links b (ch b))
      → ((c : ℕ) → 1 ≤ c → c ≤ B → filed_of links c ≡ 1 → (b : ℕ) × Memᴰ b g × Memᴰ c (b ∷ ch b)) → Made g (build_within (length g) F (map (signature_of sigs) g))
  unfolding sound_with
  made_group g ch apart few n hs cover =
      let L : List ℕ = group_links sigs links g in
      let H : (b : ℕ) → Memᴰ b g → Heads B sigs L b (ch b) = λ b m. heads_moved B sigs links L (row g apart few) b (ch b) (hs b m) in
      let holds' = holds_shape F sigs ch all_below L (length g) g 1 apart n (omega arith) apart (omega arith) H (omega arith) (omega arith) (words g apart few).0 (root_of L) (laid_root sigs links g S.fits all_below apart few) in
      let placed' = placed_shape F sigs ch all_below L S.fits.width_from (length g) g 1 apart n (omega arith) [] H (λ b m. tt) in
      let order = nodes_order F sigs ch all_below (length g) g 1 apart n (omega arith) in
      record {
        sound = sound_with g apart few (some (shape_of F sigs ch (length g) g 1)) holds' placed'
            (λ c h h' e. let x = cover c h h' e in blocks_all F sigs ch all_below (length g) g 1 apart n (omega arith) x.0 c x.1 x.2) order;
        tree = tree_shape F sigs ch all_below (length g) g 1 apart n (omega arith);
        numbered = order;
        free = refl;
        heads = rw (heads_from_shape B L (shape_of F sigs ch (length g) g 1) F (root_of L) holds' (depth_root F sigs L (shape_of F sigs ch (length g) g 1) placed')) (heads_stay F sigs ch all_below (length g) g 1 apart n (omega arith));
      }

  -- of no heads
  made_none : ((c : ℕ) → 1 ≤ c → c ≤ B → filed_of links c ≡ 1 → ⊥) → Made [] nothing
  unfolding sound_with up_from Apart
  made_none on = record {
    sound = sound_with [] (λ v. omega arith) (omega arith) none (laid_root sigs links [] S.fits all_below (λ v. omega arith) (omega arith)) tt (λ c h h' e. absurd (on c h h' e)) refl;
    tree = refl;
    numbered = refl;
    free = refl;
    heads = rw (heads_from_none B (group_links sigs links []) F (root_of (group_links sigs links [])) (laid_root sigs links [] S.fits all_below (λ v. omega arith) (omega arith))) (λ f. refl);
  }

  made : (t : Rooted) → HoldsRoot B links (root_of links) t → PlacedRoot F sigs links t → ((b : ℕ) → 1 ≤ b → b ≤ B → filed_of links b ≡ 1 → Memᴰ b (blocks_in t))
      → Made (heads_of sigs links) (build F (signatures (tree_rooted sigs t)))
  unfolding signatures build_within
  made none q pl on =
      subst (λ (g : List ℕ). Made g nothing) (sym (heads_from_none B links F (root_of links) q)) (made_none (λ c h h' e. Memᴰ.not-nil (on c h h' e)))
  made (some t) q pl on =
      let x = made_group (heads t) (chain_in F sigs t) (heads_apart B F sigs links [] t pl) (heads_few B F sigs links [] t (root_of links) q pl) (heads_some t) (heads_chains B F sigs links [] t (root_of links) q pl)
      (λ c h h' e. heads_cover B F sigs links [] t pl c (on c h h' e)) in
      let e : build_within (length (heads t)) F (map (signature_of sigs) (heads t)) ≡ build F (signatures (shape_tree sigs t)) = rw (signatures_heads sigs t, length-map (heads t) (signature_of sigs)) refl in
      subst (λ (g : List ℕ). Made g (build F (signatures (shape_tree sigs t)))) (sym (heads_from_shape B links t F (root_of links) q (depth_root F sigs links t pl)))
      (subst (Made (heads t)) e x)

  pub rebuilt : Made (heads_of sigs links) (build (width_of links) (signatures (tree_of sigs links)))
  rebuilt = subst (λ (t : Tree). Made (heads_of sigs links) (build F (signatures t))) (sym (tree_of_sound S)) (made S.tree S.holds S.placed S.on_chain)

  -- the heads are a group: blocks of distinct signatures, no more than there are blocks
  pub record HeadsGroup : Type 0 where
    pub apart : Apart sigs (heads_of sigs links)
    pub few : length (heads_of sigs links) ≤ length sigs
    pub blocks : (b : ℕ) → Memᴰ b (heads_of sigs links) → (1 ≤ b) × (b ≤ length sigs)

  pub heads_group : HeadsGroup
  unfolding Apart
  heads_group = go S.tree S.holds S.placed
    where
      go : (t : Rooted) → HoldsRoot B links (root_of links) t → PlacedRoot F sigs links t → HeadsGroup
      go none q pl =
          let e = heads_from_none B links F (root_of links) q in
          record { apart = rw e (λ v. omega arith); few = rw e (omega arith); blocks = λ b m. absurd (Memᴰ.not-nil (rw e at m)) }
      go (some t) q pl =
          let e = heads_from_shape B links t F (root_of links) q (depth_root F sigs links t pl) in
          record {
            apart = rw e (heads_apart B F sigs links [] t pl);
            few = rw e (heads_few B F sigs links [] t (root_of links) q pl);
            blocks = λ b m. let H = heads_chains B F sigs links [] t (root_of links) q pl b (rw e at m) in (H.from, H.to);
          }
