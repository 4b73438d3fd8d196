-- The last block of a signature leaves. Where its leaf has a parent, the sibling takes the parent's place, and the parent becomes the
-- first free node: no word of the sibling changes, and the parent stands nowhere else in the tree. Where the leaf is the whole tree,
-- the root becomes 0. Either way the plain tree loses that leaf.
-- Assumes nothing.
use Prim.Native.Nat.{ℕ, ◌-◌, ◌≤◌, ◌<◌}
use native.Mathlib.Omega.{arith}
use mathlib.Core.Path.{◌≡◌, refl, sym, ◌∙◌, ap, subst}
use mathlib.Core.Logic.{◌⊎◌, inl, inr, ◌≢◌}
use mathlib.Core.List.Memᴰ
use mathlib.Core.List.{List, [], ◌∷◌, ◌++◌, Memᴰ}
use lib.Pow.{pow_pos}
use Rattle.model.specs.Signature.{bit_at}
use Rattle.model.specs.Tree.{remove, Edge, edge}
use Rattle.model.specs.Tables.{word, root_at, free_at, next_at, position_at, side_at, left_at, right_at, free_of, next_of, filed_of, side_of, signature_of}
use Rattle.model.specs.Sound.{Shape, tip, fork, Rooted, none, some, Holds, Placed, nodes, blocks, blocks_in, FreeChain, SoundAt}
use Rattle.model.specs.Stores.{Store, ◌↤◌, stores}
use Rattle.model.specs.Withdraw.{withdrawal_stores, last_stores, raise_stores, withdraw_signatures}
use Rattle.model.proofs.Members.{only}
use Rattle.model.proofs.Remove.{drop_agrees, drop_untested}
use Rattle.model.proofs.Stores.{stored_same, stored_at}
use Rattle.tables.proofs.Shapes.{holds_same, placed_same}
use Rattle.tables.proofs.Counts.{free_same, free_range}
use Rattle.tables.proofs.Trees.{shape_tree, tree_rooted, tree_same, tree_of_sound}
use Rattle.tables.proofs.Sides.{pick, forked, edge_small, tree_forked, on_side, off_side, which_side, sides_held, not_on_sides, sides_placed, sides_blocks}
use Rattle.tables.proofs.Steps.{remove_noded, remove_raised, remove_leaf}
use Rattle.tables.proofs.Ways.{Way, spot, replace, path_to, part_blocks, part_nodes, part_holds, part_placed, replace_tree}
use Rattle.tables.proofs.Links.{Apart, spot_link}
use Rattle.tables.proofs.Graft.{SameNode, spot_above}
use Rattle.tables.proofs.After.{Old, old, Kept, Quiet, kept_withdrawal, after, after_graft}
use Rattle.withdraw.proofs.Freed.{free_stays, freed_outside, freed_all}
use Rattle.withdraw.proofs.Withdrawing.{Another, Leaves, others}

-- a shape placed under a path is placed under the path less an edge
placed_less : (F : ℕ) (sigs L : List ℕ) (ext : List Edge) (e : Edge) (path : List Edge) (t : Shape) → Placed F sigs L (ext ++ e ∷ path) t → Placed F sigs L (ext ++ path) t
placed_less F sigs L ext e path (tip h cs) q = (drop_agrees F (signature_of sigs h) ext e path q.0, q.1)
placed_less F sigs L ext e path (fork i p l k) q =
    (q.0, q.1, drop_untested p ext e path q.2, placed_less F sigs L (edge p 0 ∷ ext) e path l q.3, placed_less F sigs L (edge p 1 ∷ ext) e path k q.4)

module _ {B F : ℕ} {sigs L : List ℕ} (S : SoundAt B F sigs L) (b : ℕ) (b1 : 1 ≤ b) (bB : b ≤ B) (filed : filed_of L b ≡ 1) where
  module _ (t : Shape) (is_t : S.tree ≡ some t) (alone : (c : ℕ) → Another S b b1 bB filed c → ⊥) where
    O : Old S t
    O = old S t is_t

    abbrev sigs' : List ℕ
    sigs' = withdraw_signatures sigs b

    -- the new tree is the old one less the leaf
    lost : (L' : List ℕ) → Kept S b b1 bB 0 L' → (t' : Rooted) → (T : SoundAt B F sigs' L') × (T.tree ≡ t')
        → tree_rooted sigs' t' ≡ remove F (signature_of sigs b) (shape_tree sigs t) → Leaves S b b1 bB filed L'
    lost L' K t' M e = record {
      kept = K;
      sound = M.0;
      stays = λ c x. absurd (alone c x);
      loses = λ n. tree_of_sound M.0 ∙ ap (tree_rooted sigs') M.1 ∙ e ∙ sym (ap (remove F (signature_of sigs b)) (tree_of_sound S ∙ ap (tree_rooted sigs) is_t));
    }

    -- node i, with position p, has the leaf on side e and the sibling x on the other
    module _ (i p e : ℕ) (x : Shape) (z : bit_at F (signature_of sigs b) p ≡ e) (w : Way F (signature_of sigs b) (forked e i p (tip b []) x) t) where
      abbrev s : ℕ
      s = signature_of sigs b

      abbrev at : ℕ
      at = spot B root_at w

      abbrev r : ℕ
      r = side_of B L i (1 - e)

      abbrev rest : List Store
      rest = (position_at B i ↤ 0) ∷ (left_at B i ↤ free_of L) ∷ (right_at B i ↤ 0) ∷ (free_at ↤ i) ∷ (at ↤ r) ∷ []

      abbrev raised : List ℕ
      raised = stores L (raise_stores B L b at i r)

      e1 : e ≤ 1
      e1 = edge_small F s p z

      held : Holds B L (word L at) (forked e i p (tip b []) x)
      held = part_holds B L root_at w O.holds

      stands : Placed F sigs L (path_to [] w) (forked e i p (tip b []) x)
      stands = part_placed sigs L [] w O.placed

      i_in : Memᴰ i (nodes t)
      i_in = part_nodes w i (Memᴰ.head refl)

      i_range : (1 ≤ i) × (i < B)
      i_range = O.node i i_in

      A : Apart B at
      A = O.link at (spot_link B root_at w)

      -- the blocks and the nodes of the part are b, i and the sibling's
      b_in : Memᴰ b (blocks (forked e i p (tip b []) x))
      b_in = on_side blocks (tip b []) x e (Memᴰ.head refl)

      x_blocks : (c : ℕ) → Memᴰ c (blocks x) → Memᴰ c (blocks t)
      x_blocks c m = part_blocks w c (off_side blocks (tip b []) x e m)

      x_nodes : (j : ℕ) → Memᴰ j (nodes x) → Memᴰ j (nodes t)
      x_nodes j m = part_nodes w j (Memᴰ.tail (off_side nodes (tip b []) x e m))

      b_out : (c : ℕ) → Memᴰ c (blocks x) → c ≢ b
      b_out c m y = sides_blocks B L F sigs (path_to [] w) e i p (tip b []) x stands b (Memᴰ.head refl) (Memᴰ.cast (sym y) m)

      i_out : (j : ℕ) → Memᴰ j (nodes x) → j ≢ i
      i_out j m y = (not_on_sides B L e i p (tip b []) x (word L at) held).1 (Memᴰ.cast (sym y) m)

      quiet : Quiet S b b1 bB rest
      quiet = record {
        width = omega (arith, A, i_range);
        told = omega (arith, A, i_range);
        count = omega (arith, A, i_range);
        filed = λ c y y'. omega (arith, A.row c y y', i_range);
        next = λ c n y y' f. omega (arith, A.row c y y', i_range);
      }

      K : Kept S b b1 bB 0 raised
      K = kept_withdrawal S b b1 bB rest filed quiet (omega (arith, A.row b b1 bB, i_range))

      next_far : (c : ℕ) → Memᴰ c (blocks t) → c ≢ b → next_of raised c ≡ next_of L c
      next_far c m n = let f = O.filed c m in stored_same L (withdrawal_stores L b rest) (next_at c) (omega (arith, A.row c f.0 f.1, i_range))

      node_far : (j : ℕ) → 1 ≤ j → j < B → j ≢ i → SameNode B L raised at j
      node_far j h h' n = (
        stored_same L (withdrawal_stores L b rest) (position_at B j) (omega (arith, A.position j h, i_range)),
        λ d y o. stored_same L (withdrawal_stores L b rest) (side_at B j d) (omega (arith, i_range)),
      )

      above : (d : ℕ) → d ≤ 1 → at ≢ side_at B i d
      above = spot_above B L root_at w O.holds (λ j m d h. omega (arith, O.node j m)) i (Memᴰ.head refl)

      above_x : (j : ℕ) → Memᴰ j (nodes x) → (d : ℕ) → d ≤ 1 → side_at B j d ≢ at
      above_x j m d h y = spot_above B L root_at w O.holds (λ k n g l. omega (arith, O.node k n)) j (Memᴰ.tail (off_side nodes (tip b []) x e m)) d h (sym y)

      -- the sibling is as before, and stands in the parent's place
      sibling : Holds B raised (word raised at) x
      sibling = holds_same B L raised x r (word raised at)
          (stored_at L (withdrawal_stores L b ((position_at B i ↤ 0) ∷ (left_at B i ↤ free_of L) ∷ (right_at B i ↤ 0) ∷ (free_at ↤ i) ∷ [])) at r [] (omega (arith, A.inside, S.fits.links_long)) tt)
          (λ c m. next_far c (x_blocks c m) (b_out c m))
          (λ j m. let g = O.node j (x_nodes j m) in let n = node_far j g.0 g.1 (i_out j m) in
          (n.0, n.1 0 (omega arith) (above_x j m 0 (omega arith)), n.1 1 (omega arith) (above_x j m 1 (omega arith))))
          (sides_held B L e i p (tip b []) x (word L at) e1 held).1

      put : Placed F sigs' raised (path_to [] w) x
      put = placed_same F sigs sigs' L raised (path_to [] w) x
          (λ c m. let f = O.filed c (x_blocks c m) in (K.filed_same c (b_out c m) f.0 f.1, others S b b1 bB filed c f.0 (b_out c m)))
          (placed_less F sigs L [] (edge p (1 - e)) (path_to [] w) x (sides_placed B L F sigs (path_to [] w) e i p (tip b []) x e1 stands).1)

      -- the parent is the first free node
      free_raised : FreeChain B raised (free_of raised) (i ∷ S.free)
      free_raised =
          let a0 = above 0 (omega arith) in
          let a1 = above 1 (omega arith) in (
            stored_at L (withdrawal_stores L b ((position_at B i ↤ 0) ∷ (left_at B i ↤ free_of L) ∷ (right_at B i ↤ 0) ∷ [])) free_at i ((at ↤ r) ∷ []) (omega (arith, S.fits.links_long)) (omega (arith, A)),
            i_range.0,
            i_range.1,
            stored_at L (withdrawal_stores L b []) (position_at B i) 0 ((left_at B i ↤ free_of L) ∷ (right_at B i ↤ 0) ∷ (free_at ↤ i) ∷ (at ↤ r) ∷ []) (omega (arith, i_range, S.fits.links_long)) (omega (arith, A.position i i_range.0)),
            stored_at L (withdrawal_stores L b ((position_at B i ↤ 0) ∷ (left_at B i ↤ free_of L) ∷ [])) (right_at B i) 0 ((free_at ↤ i) ∷ (at ↤ r) ∷ []) (omega (arith, i_range, S.fits.links_long)) (omega arith),
            free_stays S t is_t w raised (word raised (left_at B i))
                (stored_at L (withdrawal_stores L b ((position_at B i ↤ 0) ∷ [])) (left_at B i) (free_of L) ((right_at B i ↤ 0) ∷ (free_at ↤ i) ∷ (at ↤ r) ∷ []) (omega (arith, i_range, S.fits.links_long)) (omega arith))
                (λ j m. let g = free_range B L (free_of L) S.free S.free_holds j m in node_far j g.0 g.1 (λ y. O.outside i (Memᴰ.cast (sym y) m) i_in)),
          )

      -- the part's nodes are the parent and the sibling's
      theirs : (j : ℕ) → Memᴰ j (nodes (forked e i p (tip b []) x)) → Memᴰ j (i ∷ []) ⊎ Memᴰ j (nodes x)
      theirs j m = go (Memᴰ.cases_cons m)
        where
          late : Memᴰ j [] ⊎ Memᴰ j (nodes x) → Memᴰ j (i ∷ []) ⊎ Memᴰ j (nodes x)
          late (inl n) = absurd (Memᴰ.not-nil n)
          late (inr n) = inr n

          go : (j ≡ i) ⊎ Memᴰ j (nodes (pick e (tip b []) x) ++ nodes (pick e x (tip b []))) → Memᴰ j (i ∷ []) ⊎ Memᴰ j (nodes x)
          go (inl y) = inl (Memᴰ.head y)
          go (inr n) = late (which_side nodes (tip b []) x e n)

      inside : (j : ℕ) → Memᴰ j (nodes x) → Memᴰ j (nodes (forked e i p (tip b []) x))
      inside j m = Memᴰ.tail (off_side nodes (tip b []) x e m)

      out : (j : ℕ) → Memᴰ j (i ∷ []) → Memᴰ j (nodes (forked e i p (tip b []) x)) × (Memᴰ j (nodes x) → ⊥)
      out j m = let y = only i j (Memᴰ.cases_cons m) in (Memᴰ.head y, λ n. i_out j n y)

      made : (T : SoundAt B F sigs' raised) × (T.tree ≡ some (replace w x))
      made = after_graft S b b1 bB 0 0 (omega arith) (pow_pos F) (λ y. refl) raised K t is_t w x
          (λ c m n y. n (Memᴰ.cast y b_in))
          (λ n. stored_same L (withdrawal_stores L b rest) root_at (omega (arith, i_range)))
          (λ c m n. next_far c m (λ y. n (Memᴰ.cast y b_in)))
          (λ j m n. let g = O.node j m in node_far j g.0 g.1 (λ y. n (Memᴰ.head y)))
          sibling put
          (λ c n m. stay c n (which_side blocks (tip b []) x e m))
          (λ y. absurd (omega arith))
          (i ∷ S.free) free_raised
          (freed_outside S t is_t w x (i ∷ []) theirs inside out)
          (freed_all S t is_t w x (i ∷ []) theirs inside out)
        where
          stay : (c : ℕ) → c ≢ b → Memᴰ c (b ∷ []) ⊎ Memᴰ c (blocks x) → Memᴰ c (blocks x)
          stay c n (inl m) = absurd (n (only b c (Memᴰ.cases_cons m)))
          stay c n (inr m) = m

      tree_raised : shape_tree sigs' (replace w x) ≡ remove F s (shape_tree sigs t)
      tree_raised = replace_tree (remove F s) sigs sigs' L (remove_noded F s sigs') [] w x O.placed
          (λ c m n. others S b b1 bB filed c (O.filed c m).0 (λ y. n (Memᴰ.cast y b_in)))
          (tree_same sigs sigs' x (λ c m. others S b b1 bB filed c (O.filed c (x_blocks c m)).0 (b_out c m))
          ∙ sym (ap (remove F s) (tree_forked sigs e i p (tip b []) x) ∙ remove_raised F s e p (shape_tree sigs x) z))

      pub raise : Leaves S b b1 bB filed raised
      raise = lost raised K (some (replace w x)) made tree_raised

    -- the last block of all
    pub last : t ≡ tip b [] → Leaves S b b1 bB filed (stores L (last_stores L b))
    last e = lost L' K none made (sym (ap (λ (y : Shape). remove F (signature_of sigs b) (shape_tree sigs y)) e ∙ remove_leaf F (signature_of sigs b) (signature_of sigs b) refl))
      where
        ws : List Store
        ws = (root_at ↤ 0) ∷ []

        L' : List ℕ
        L' = stores L (withdrawal_stores L b ws)

        K : Kept S b b1 bB 0 L'
        K = kept_withdrawal S b b1 bB ws filed (record { width = omega arith; told = omega arith; count = omega arith; filed = λ c x y. omega arith; next = λ c n x y f. omega arith }) (omega arith)

        rest : (j : ℕ) → Memᴰ j (nodes t) ⊎ Memᴰ j S.free → Memᴰ j S.free
        rest j (inl m) = absurd (Memᴰ.not-nil (subst (λ (x : Shape). Memᴰ j (nodes x)) e m))
        rest j (inr m) = m

        made : (T : SoundAt B F sigs' L') × (T.tree ≡ none)
        made = after S b b1 bB 0 0 (omega arith) (pow_pos F) (λ y. refl) L' K none
            (stored_at L (withdrawal_stores L b []) root_at 0 [] (omega (arith, S.fits.links_long)) tt) tt
            (λ c n m. absurd (n (only b c (Memᴰ.cases_cons (subst (λ (x : Shape). Memᴰ c (blocks x)) e (subst (λ (x : Rooted). Memᴰ c (blocks_in x)) is_t m))))))
            (λ y. absurd (omega arith))
            S.free
            (free_same B L L' (free_of L) (free_of L') S.free (stored_same L (last_stores L b) free_at (omega arith))
            (λ j m. let o = free_range B L (free_of L) S.free S.free_holds j m in
            (stored_same L (last_stores L b) (position_at B j) (omega arith), stored_same L (last_stores L b) (left_at B j) (omega arith), stored_same L (last_stores L b) (right_at B j) (omega arith)))
            S.free_holds)
            (λ j m n. Memᴰ.not-nil n)
            (λ j x y. inr (rest j (O.all j x y)))
