-- Filing a signature that is not stored, into a tree: the first free node takes the place of the leaf that the signature's bits lead to.
-- The two signatures agree with the leaf's path, so the position where they differ is not tested on it; the new leaf goes to the side of
-- its own bit there, the old one to the other side.
-- Assumes nothing.
use Prim.Native.Nat.{ℕ, ◌+◌, ◌-◌, ◌≤◌, ◌<◌}
use native.Mathlib.Omega.{arith}
use mathlib.Core.Path.{◌≡◌, refl, sym, ◌∙◌, ap, subst}
use mathlib.Core.Logic.{◌⊎◌, inl, inr, ◌≢◌}
use mathlib.Core.List.Memᴰ
use mathlib.Core.List.{List, [], ◌∷◌, ◌++◌, Memᴰ}
use Rattle.model.specs.Signature.{bit_at, first_difference}
use Rattle.model.specs.Tree.{leaf, insert, edge, Agrees}
use Rattle.model.specs.Tables.{word, root_at, free_at, next_at, position_at, side_at, free_of, next_of, filed_of, position_of, side_of, left_of, signature_of}
use Rattle.model.specs.Sound.{Shape, tip, some, Holds, Placed, nodes, blocks, FreeChain, SoundAt}
use Rattle.model.specs.Stores.{Store, ◌↤◌, stores}
use Rattle.model.specs.File.{filing_stores, split_stores, file_signatures}
use Rattle.model.proofs.Bits.{bit_below}
use Rattle.model.proofs.Stores.{stored_same, stored_at}
use Rattle.model.proofs.Trees.{untested}
use Rattle.signature.proofs.Difference.{IsFirst, first_is}
use Rattle.tables.proofs.Shapes.{holds_same, placed_same}
use Rattle.tables.proofs.Counts.{free_same, free_range, free_no_return}
use Rattle.tables.proofs.Trees.{shape_tree}
use Rattle.tables.proofs.Sides.{pick, forked, noded, tree_forked, on_side, off_side, which_side, hold_sides, place_sides}
use Rattle.tables.proofs.Steps.{insert_split}
use Rattle.tables.proofs.Ways.{Way, spot, replace, path_to, way_agrees, part_blocks, part_holds, part_placed}
use Rattle.tables.proofs.Links.{IsLink, Apart, link_other, spot_link}
use Rattle.tables.proofs.Graft.{graft_nodes_old, graft_nodes_new, graft_nodes_cases}
use Rattle.tables.proofs.After.{Old, old, kept_filing, after_graft}
use Rattle.file.proofs.Good.{Fileable, Rows, With, Good, good, not_zero, one, own_signature, another, same_signature, grown}

module _ {B F : ℕ} {sigs L : List ℕ} {S : SoundAt B F sigs L} {b s : ℕ} (Q : Fileable S b s) (t : Shape) (is_t : S.tree ≡ some t) (h : ℕ) (cs : List ℕ) (w : Way F s (tip h cs) t) where
  O : Old S t
  O = old S t is_t

  head : Memᴰ h (blocks t)
  head = part_blocks w h (Memᴰ.head refl)

  abbrev sp : ℕ
  sp = spot B root_at w

  abbrev sigs' : List ℕ
  sigs' = file_signatures sigs b s

  -- the first free node i, the position d that it gets, the side e of the new leaf
  module _ (i : ℕ) (is : List ℕ) (is_f : S.free ≡ i ∷ is) (d e : ℕ) (e1 : e ≤ 1) where
    freeH : FreeChain B L (free_of L) (i ∷ is)
    freeH = subst (FreeChain B L (free_of L)) is_f S.free_holds

    free_i : (1 ≤ i) × (i < B)
    free_i = (freeH.1, freeH.2)

    is_free : (j : ℕ) → Memᴰ j (i ∷ is) → Memᴰ j S.free
    is_free j m = subst (Memᴰ j) (sym is_f) m

    -- the spot is no word of a free node, nor of the front, a row or a position
    spot_free : (j : ℕ) → Memᴰ j (i ∷ is) → (c : ℕ) → c ≤ 1 → sp ≢ side_at B j c
    spot_free j m = link_other B root_at t sp (spot_link B root_at w) j (O.outside j (is_free j m)) (λ c x. omega arith)

    apart : Apart B sp
    apart = O.link sp (spot_link B root_at w)

    not_own : (c : ℕ) → c ≤ 1 → sp ≢ side_at B i c
    not_own = spot_free i (Memᴰ.head refl)

    abbrev late : List Store
    late = (side_at B i e ↤ b) ∷ (side_at B i (1 - e) ↤ h) ∷ (sp ↤ B + i) ∷ []

    abbrev ws : List Store
    ws = (next_at b ↤ 0) ∷ (free_at ↤ left_of B L i) ∷ (position_at B i ↤ d) ∷ late

    abbrev all : List Store
    all = filing_stores L b ws

    abbrev L' : List ℕ
    L' = stores L all

    kept : Rows Q L'
    kept = kept_filing S b Q.from Q.to ws Q.unfiled (record {
      width = omega (arith, apart.width, free_i, Q.from);
      told = omega (arith, apart.told, free_i, Q.from);
      count = omega (arith, apart.count, free_i, Q.from);
      filed = λ c x y. omega (arith, apart.row c x y, free_i, Q.from);
      next = λ c n x y z. omega (arith, apart.row c x y, free_i);
    })

    -- what is as before
    next_word : (c : ℕ) → Memᴰ c (blocks t) → next_of L' c ≡ next_of L c
    next_word c m =
        let o = O.filed c m in
        let n = another Q t is_t c m in
        let r = apart.row c o.0 o.1 in
        stored_same L all (next_at c) (omega (arith, free_i))

    position_word : (j : ℕ) → 1 ≤ j → j < B → j ≢ i → position_of B L' j ≡ position_of B L j
    position_word j x y n = let r = apart.position j x in stored_same L all (position_at B j) (omega (arith, free_i, Q.from, Q.to))

    -- a reference's word, other than the spot and those of node i
    link_word : (a : ℕ) → Apart B a → a ≢ sp → ((c : ℕ) → c ≤ 1 → a ≢ side_at B i c) → word L' a ≡ word L a
    link_word a x n o =
        let k = x.row b Q.from Q.to in
        stored_same L all a (k.1, (x.count, (k.0, (x.first, (x.position i free_i.0, (o e e1, (o (1 - e) (omega arith), (n, tt))))))))

    not_tree : (j : ℕ) → Memᴰ j (nodes t) → j ≢ i
    not_tree j m x = O.outside i (is_free i (Memᴰ.head refl)) (Memᴰ.cast (sym x) m)

    tree_word : (a : ℕ) → IsLink B root_at t a → a ≢ sp → word L' a ≡ word L a
    tree_word a x n = link_word a (O.link a x) n (link_other B root_at t a x i (O.outside i (is_free i (Memᴰ.head refl))) (λ c y. omega arith))

    -- the rest of the free chain
    not_first : (j : ℕ) → Memᴰ j is → j ≢ i
    not_first j m x = free_no_return B L (free_of L) i is freeH (Memᴰ.cast (sym x) m)

    side_word : (j : ℕ) → Memᴰ j is → (c : ℕ) → c ≤ 1 → side_of B L' j c ≡ side_of B L j c
    side_word j m c x =
        let r = free_range B L (free_of L) (i ∷ is) freeH j (Memᴰ.tail m) in
        let n = not_first j m in
        let f = spot_free j (Memᴰ.tail m) c x in
        stored_same L all (side_at B j c) (omega (arith, free_i, Q.from, Q.to))

    free_rest : FreeChain B L' (free_of L') is
    free_rest = free_same B L L' (left_of B L i) (free_of L') is
        (stored_at L (filing_stores L b ((next_at b ↤ 0) ∷ [])) free_at (left_of B L i) ((position_at B i ↤ d) ∷ late) (omega (arith, S.fits.links_long, S.fits.blocks_from)) (omega (arith, apart.first, free_i)))
        (λ j m. let r = free_range B L (free_of L) (i ∷ is) freeH j (Memᴰ.tail m) in (position_word j r.0 r.1 (not_first j m), side_word j m 0 (omega arith), side_word j m 1 (omega arith)))
        freeH.5

    -- the new node's words
    abbrev front : List Store → List Store
    front rest = filing_stores L b ((next_at b ↤ 0) ∷ (free_at ↤ left_of B L i) ∷ rest)

    new_position : position_of B L' i ≡ d
    new_position = let x = apart.position i free_i.0 in stored_at L (front []) (position_at B i) d late (omega (arith, free_i, S.fits.links_long)) (omega arith)

    new_side : side_of B L' i e ≡ b
    new_side =
        let x = not_own e e1 in
        stored_at L (front ((position_at B i ↤ d) ∷ [])) (side_at B i e) b ((side_at B i (1 - e) ↤ h) ∷ (sp ↤ B + i) ∷ []) (omega (arith, free_i, S.fits.links_long)) (omega arith)

    old_side : side_of B L' i (1 - e) ≡ h
    old_side =
        let x = not_own (1 - e) (omega arith) in
        stored_at L (front ((position_at B i ↤ d) ∷ (side_at B i e ↤ b) ∷ [])) (side_at B i (1 - e)) h ((sp ↤ B + i) ∷ []) (omega (arith, free_i, S.fits.links_long)) (omega arith)

    new_reference : word L' sp ≡ B + i
    new_reference =
        stored_at L (front ((position_at B i ↤ d) ∷ (side_at B i e ↤ b) ∷ (side_at B i (1 - e) ↤ h) ∷ [])) sp (B + i) [] (omega (arith, apart.inside, S.fits.links_long)) tt

    -- and its two leaves
    new_leaf : Holds B L' (side_of B L' i e) (tip b [])
    new_leaf =
        let x = apart.row b Q.from Q.to in
        (new_side, Q.from, Q.to, stored_at L (filing_stores L b []) (next_at b) 0 ((free_at ↤ left_of B L i) ∷ (position_at B i ↤ d) ∷ late) (omega (arith, S.fits.links_long, Q.to)) (omega (arith, free_i, Q.from, Q.to)))

    old_leaf : Holds B L' (side_of B L' i (1 - e)) (tip h cs)
    old_leaf =
        let f = part_holds B L root_at w O.holds in
        holds_same B L L' (tip h cs) (word L sp) (side_of B L' i (1 - e)) (old_side ∙ sym f.0) (λ c m. next_word c (part_blocks w c m)) (λ j m. absurd (Memᴰ.not-nil m)) f

    abbrev u : Shape
    u = forked e i d (tip b []) (tip h cs)

    spelled : Holds B L' (word L' sp) u
    spelled = hold_sides B L' e i d (tip b []) (tip h cs) (word L' sp) e1 new_reference free_i.0 free_i.1 new_position new_leaf old_leaf

    same_row : (c : ℕ) → Memᴰ c (blocks t) → (filed_of L' c ≡ filed_of L c) × (signature_of sigs' c ≡ signature_of sigs c)
    same_row c m = let o = O.filed c m in (kept.filed_same c (another Q t is_t c m) o.0 o.1, same_signature Q t is_t c m)

    placed : 1 ≤ d → d ≤ F → bit_at F s d ≡ e → bit_at F (signature_of sigs h) d ≡ 1 - e → Placed F sigs' L' (path_to [] w) u
    placed d1 dF be bh =
        let f = part_placed sigs L [] w O.placed in
        let a = way_agrees [] w tt in
        place_sides B L' F sigs' (path_to [] w) e i d (tip b []) (tip h cs) e1 d1 dF
        (untested F s (signature_of sigs h) d (path_to [] w) a f.0 (λ x. omega arith))
        (subst (λ (x : ℕ). Agrees F x (edge d e ∷ path_to [] w)) (sym (own_signature Q)) (be, a), λ c m. single c (Memᴰ.cases_cons m))
        (placed_same F sigs sigs' L L' (edge d (1 - e) ∷ path_to [] w) (tip h cs) (λ c m. same_row c (part_blocks w c m)) ((bh, f.0), f.1))
      where
        single : (c : ℕ) → (c ≡ b) ⊎ Memᴰ c [] → (filed_of L' c ≡ 1) × (signature_of sigs' c ≡ signature_of sigs' b)
        single c (inl x) = (ap (filed_of L') x ∙ kept.filed_own, ap (signature_of sigs') x)
        single c (inr m) = absurd (Memᴰ.not-nil m)

    -- the nodes: those of the tree, and i
    only : (j : ℕ) → Memᴰ j (nodes u) → j ≡ i
    only j m = first (Memᴰ.cases_cons m)
      where
        none_below : Memᴰ j [] ⊎ Memᴰ j [] → j ≡ i
        none_below (inl n) = absurd (Memᴰ.not-nil n)
        none_below (inr n) = absurd (Memᴰ.not-nil n)

        first : (j ≡ i) ⊎ Memᴰ j (nodes (pick e (tip b []) (tip h cs)) ++ nodes (pick e (tip h cs) (tip b []))) → j ≡ i
        first (inl x) = x
        first (inr n) = none_below (which_side nodes (tip b []) (tip h cs) e n)

    outside : (j : ℕ) → Memᴰ j is → Memᴰ j (nodes t) ⊎ Memᴰ j (nodes u) → ⊥
    outside j m (inl n) = O.outside j (is_free j (Memᴰ.tail m)) n
    outside j m (inr n) = not_first j m (only j n)

    everywhere : (j : ℕ) → Memᴰ j (nodes t) ⊎ Memᴰ j S.free → Memᴰ j (nodes (replace w u)) ⊎ Memᴰ j is
    everywhere j (inl m) = inl (stays (graft_nodes_old w u j m))
      where
        stays : Memᴰ j (nodes (replace w u)) ⊎ Memᴰ j [] → Memᴰ j (nodes (replace w u))
        stays (inl n) = n
        stays (inr n) = absurd (Memᴰ.not-nil n)
    everywhere j (inr m) = goes (Memᴰ.cases_cons (subst (Memᴰ j) is_f m))
      where
        goes : (j ≡ i) ⊎ Memᴰ j is → Memᴰ j (nodes (replace w u)) ⊎ Memᴰ j is
        goes (inl x) = inl (graft_nodes_new w u j (Memᴰ.head x))
        goes (inr n) = inr n

    made : 1 ≤ d → d ≤ F → bit_at F s d ≡ e → bit_at F (signature_of sigs h) d ≡ 1 - e → With Q L' kept (some (replace w u))
    made d1 dF be bh = after_graft S b Q.from Q.to 1 s one Q.small (not_zero s) L' kept t is_t w u
        (λ c m n. another Q t is_t c m)
        (tree_word root_at (inl refl))
        (λ c m n. next_word c m)
        (λ j m n. let r = O.node j m in (position_word j r.0 r.1 (not_tree j m), λ c x. tree_word (side_at B j c) (inr (j, c, m, x, refl))))
        spelled (placed d1 dF be bh)
        (λ c n m. off_side blocks (tip b []) (tip h cs) e m)
        (λ _. on_side blocks (tip b []) (tip h cs) e (Memᴰ.head refl))
        is free_rest
        (λ j m n. outside j m (graft_nodes_cases w u j n))
        (λ j x y. everywhere j (O.all j x y))

    split_made : 1 ≤ d → d ≤ F → bit_at F s d ≡ e → bit_at F (signature_of sigs h) d ≡ 1 - e → shape_tree sigs' u ≡ insert F s (leaf (signature_of sigs h)) → Good Q (stores L (split_stores B L b sp h i d e))
    split_made d1 dF be bh tr = good Q L' kept (some (replace w u)) (made d1 dF be bh) (grown Q t is_t w u tr)

  abbrev a : ℕ
  a = signature_of sigs h

  -- at the first position where the signatures differ
  pub split_good : (i : ℕ) (is : List ℕ) → S.free ≡ i ∷ is → (n : signature_of sigs h ≢ s) (d : ℕ) → d ≡ first_difference F s (signature_of sigs h) → Good Q (stores L (split_stores B L b sp h i d (bit_at F s d)))
  split_good i is is_f n d is_d = split_made i is is_f d (bit_at F s d) e1 first.low first.high refl (omega (arith, first.differs, e1, bit_below F a d)) (
      tree_forked sigs' (bit_at F s d) i d (tip b []) (tip h cs)
      ∙ ap (λ (x : ℕ). noded (bit_at F s d) d (leaf x) (leaf (signature_of sigs' h))) (own_signature Q)
      ∙ ap (λ (x : ℕ). noded (bit_at F s d) d (leaf s) (leaf x)) (same_signature Q t is_t h head)
      ∙ subst (λ (x : ℕ). noded (bit_at F s x) x (leaf s) (leaf a) ≡ insert F s (leaf a)) (sym is_d) (sym (insert_split F s a _ n refl))
      )
    where
      e1 : bit_at F s d ≤ 1
      e1 = omega (arith, bit_below F s d)

      first : IsFirst F s a d
      first = let r = O.filed h head in subst (IsFirst F s a) (sym is_d) (first_is F s a Q.small (S.narrow h r.0 r.1) (λ x. n (sym x)))
