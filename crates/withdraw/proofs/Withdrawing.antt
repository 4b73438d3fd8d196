-- What a withdrawal leaves of sound tables, and the chains that lose a block and stay. Only b's row, the count and one word change: the
-- leaf's reference, or the next word of the block before b. So the tree has another chain in its leaf's place, of the same signature.
-- Assumes nothing.
use Prim.Native.Nat.{ℕ, ◌≤◌}
use native.Mathlib.Omega.{arith}
use mathlib.Core.Path.{◌≡◌, refl, sym, ◌∙◌, ap, subst}
use mathlib.Core.Logic.{◌⊎◌, inl, inr, ◌≢◌}
use mathlib.Core.List.Memᴰ
use mathlib.Core.List.{List, [], ◌∷◌, Memᴰ}
use lib.Pow.{pow_pos}
use Rattle.model.specs.Tree.{leaf, remove, Agrees}
use Rattle.model.specs.Tables.{word, root_at, free_at, count_at, next_at, filed_at, position_at, side_at, root_of, free_of, next_of, filed_of, signature_of, tree_from}
use Rattle.model.specs.Sound.{Shape, tip, some, Holds, Placed, blocks, FreeChain, SoundAt}
use Rattle.model.specs.Stores.{Store, ◌↤◌, stores}
use Rattle.model.specs.Withdraw.{withdrawal_stores, unlink_stores, head_stores, withdraw_signatures}
use Rattle.model.proofs.Stores.{stored_same, stored_at}
use Rattle.model.proofs.Pigeon.{without, without_keeps, without_in, without_gone}
use Rattle.tables.proofs.Shapes.{chain_same, chain_no_return}
use Rattle.tables.proofs.Counts.{free_range}
use Rattle.tables.proofs.Trees.{tree_rooted, tree_of_sound}
use Rattle.tables.proofs.Ways.{Way, spot, replace, path_to, part_blocks, part_holds, part_placed, replace_tree}
use Rattle.tables.proofs.Links.{Apart, spot_link}
use Rattle.tables.proofs.Graft.{SameNode}
use Rattle.tables.proofs.After.{signature_other, Old, old, Kept, Quiet, kept_withdrawal, after_graft}
use Rattle.tables.proofs.Distinct.{chain_distinct}
use Rattle.withdraw.proofs.Freed.{free_stays, freed_outside, freed_all}
use Rattle.withdraw.proofs.Cut.{before, before_in, before_other, chain_cut}

module _ {B F : ℕ} {sigs L : List ℕ} (S : SoundAt B F sigs L) (b : ℕ) (b1 : 1 ≤ b) (bB : b ≤ B) (filed : filed_of L b ≡ 1) where
  -- another filed block c has b's signature
  abbrev pub Another : ℕ → Type 0
  Another c = (c ≢ b) × (1 ≤ c) × (c ≤ B) × (filed_of L c ≡ 1) × (signature_of sigs c ≡ signature_of sigs b)

  -- sound tables; the plain tree stays while another filed block has the signature, and loses its leaf otherwise
  pub record Leaves (L' : List ℕ) : Type 0 where
    pub kept : Kept S b b1 bB 0 L'
    pub sound : SoundAt B F (withdraw_signatures sigs b) L'
    pub stays : (c : ℕ) → Another c → tree_from B (withdraw_signatures sigs b) L' F (root_of L') ≡ tree_from B sigs L F (root_of L)
    pub loses : ((c : ℕ) → Another c → ⊥) → tree_from B (withdraw_signatures sigs b) L' F (root_of L') ≡ remove F (signature_of sigs b) (tree_from B sigs L F (root_of L))

  -- the signatures of all other blocks
  pub others : (c : ℕ) → 1 ≤ c → c ≢ b → signature_of (withdraw_signatures sigs b) c ≡ signature_of sigs c
  others = signature_other sigs b 0 b1

  module _ (t : Shape) (is_t : S.tree ≡ some t) where
    O : Old S t
    O = old S t is_t

    -- The chain h, cs has b and loses it: v is stored at the leaf's reference, or at the next word of another block x of the chain.
    module _ {s h : ℕ} {cs : List ℕ} (w : Way F s (tip h cs) t) (b_in : Memᴰ b (h ∷ cs)) (at v : ℕ)
        (place : (at ≡ spot B root_at w) ⊎ ((x : ℕ) × Memᴰ x (h ∷ cs) × (x ≢ b) × (at ≡ next_at x))) where
      A : Apart B (spot B root_at w)
      A = O.link (spot B root_at w) (spot_link B root_at w)

      leafP : Placed F sigs L (path_to [] w) (tip h cs)
      leafP = part_placed sigs L [] w O.placed

      on : (c : ℕ) → Memᴰ c (h ∷ cs) → (1 ≤ c) × (c ≤ B) × (filed_of L c ≡ 1)
      on c m = O.filed c (part_blocks w c m)

      -- at is no word but the leaf's reference or such a next word
      aside : (a : ℕ) → a ≢ spot B root_at w → ((c : ℕ) → 1 ≤ c → c ≤ B → a ≢ next_at c) → a ≢ at
      aside a n r e = go place
        where
          go : (at ≡ spot B root_at w) ⊎ ((x : ℕ) × Memᴰ x (h ∷ cs) × (x ≢ b) × (at ≡ next_at x)) → ⊥
          go (inl y) = n (e ∙ y)
          go (inr x) = let f = on x.0 x.1 in r x.0 f.0 f.1 (e ∙ x.3)

      next_aside : (c : ℕ) → 1 ≤ c → c ≤ B → (c ≡ b) ⊎ (Memᴰ c (h ∷ cs) → ⊥) → next_at c ≢ at
      next_aside c l l' k e = go place k
        where
          go : (at ≡ spot B root_at w) ⊎ ((x : ℕ) × Memᴰ x (h ∷ cs) × (x ≢ b) × (at ≡ next_at x)) → (c ≡ b) ⊎ (Memᴰ c (h ∷ cs) → ⊥) → ⊥
          go (inl y) z = (A.row c l l').0 (sym (e ∙ y))
          go (inr x) (inl z) = let y = x.3 in x.2 (let u : x.0 ≡ c = omega arith in u ∙ z)
          go (inr x) (inr n) = let y = x.3 in n (let u : c ≡ x.0 = omega arith in Memᴰ.cast u x.1)

      abbrev all : List Store
      all = withdrawal_stores L b ((at ↤ v) ∷ [])

      abbrev relinked : List ℕ
      relinked = stores L all

      quiet : Quiet S b b1 bB ((at ↤ v) ∷ [])
      quiet = record {
        width = (aside 0 (λ e. A.width (sym e)) (λ c x y. omega arith), tt);
        told = (aside 1 (λ e. A.told (sym e)) (λ c x y. omega arith), tt);
        count = (aside count_at (λ e. A.count (sym e)) (λ c x y. omega arith), tt);
        filed = λ c x y. (aside (filed_at c) (λ e. (A.row c x y).1 (sym e)) (λ d m n. omega arith), tt);
        next = λ c n x y z. (next_aside c x y (inr (λ m. let f = (on c m).2 in omega arith)), tt);
      }

      K : Kept S b b1 bB 0 relinked
      K = kept_withdrawal S b b1 bB ((at ↤ v) ∷ []) filed quiet (next_aside b b1 bB (inl refl), tt)

      -- all other words stay
      far : (a : ℕ) → a ≢ count_at → ((c : ℕ) → 1 ≤ c → c ≤ B → (a ≢ next_at c) × (a ≢ filed_at c)) → a ≢ spot B root_at w → word relinked a ≡ word L a
      far a n r o = stored_same L all a ((r b b1 bB).0, ((r b b1 bB).1, (n, (aside a o (λ c x y. (r c x y).0), tt))))

      next_far : (c : ℕ) → Memᴰ c (blocks t) → (Memᴰ c (h ∷ cs) → ⊥) → next_of relinked c ≡ next_of L c
      next_far c m n =
          let f = O.filed c m in
          let ne : c ≢ b = λ e. n (Memᴰ.cast e b_in) in
          stored_same L all (next_at c) (omega arith, (omega arith, (omega arith, (next_aside c f.0 f.1 (inr n), tt))))

      node_far : (j : ℕ) → 1 ≤ j → SameNode B L relinked (spot B root_at w) j
      node_far j x = (
        far (position_at B j) (omega arith) (λ c y z. omega arith) (λ e. A.position j x (sym e)),
        λ e h y. far (side_at B j e) (omega arith) (λ c u z. omega arith) y,
      )

      -- the new chain is g, ds: the old one's blocks but b
      module _ (g : ℕ) (ds : List ℕ) (spelled : Holds B relinked (word relinked (spot B root_at w)) (tip g ds))
          (sub : (c : ℕ) → Memᴰ c (g ∷ ds) → (c ≢ b) × Memᴰ c (h ∷ cs))
          (sup : (c : ℕ) → c ≢ b → Memᴰ c (h ∷ cs) → Memᴰ c (g ∷ ds)) where
        same : (c : ℕ) → Memᴰ c (g ∷ ds) → (filed_of relinked c ≡ 1) × (signature_of (withdraw_signatures sigs b) c ≡ signature_of sigs h)
        same c m =
            let x = sub c m in
            let f = on c x.1 in
            (K.filed_same c x.0 f.0 f.1 ∙ f.2, others c f.0 x.0 ∙ (leafP.1 c x.1).1)

        put : Placed F (withdraw_signatures sigs b) relinked (path_to [] w) (tip g ds)
        put =
            let e = (same g (Memᴰ.head refl)).1 in
            (subst (λ (x : ℕ). Agrees F x (path_to [] w)) (sym e) leafP.0, λ c m. ((same c m).0, (same c m).1 ∙ sym e))

        free_far : FreeChain B relinked (free_of relinked) S.free
        free_far = free_stays S t is_t w relinked (free_of relinked) (far free_at (omega arith) (λ c x y. omega arith) (λ e. A.first (sym e)))
            (λ j m. node_far j (free_range B L (free_of L) S.free S.free_holds j m).0)

        made : (T : SoundAt B F (withdraw_signatures sigs b) relinked) × (T.tree ≡ some (replace w (tip g ds)))
        made = after_graft S b b1 bB 0 0 (omega arith) (pow_pos F) (λ e. refl) relinked K t is_t w (tip g ds)
            (λ c m n e. n (Memᴰ.cast e b_in))
            (λ n. far root_at (omega arith) (λ c x y. omega arith) n)
            next_far
            (λ j m n. node_far j (O.node j m).0)
            spelled put sup
            (λ e. absurd (omega arith))
            S.free free_far
            (freed_outside S t is_t w (tip g ds) [] (λ j m. inl m) (λ j m. m) (λ j m. absurd (Memᴰ.not-nil m)))
            (freed_all S t is_t w (tip g ds) [] (λ j m. inl m) (λ j m. m) (λ j m. absurd (Memᴰ.not-nil m)))

        -- the plain tree has the same leaf there
        tree_stays : tree_from B (withdraw_signatures sigs b) relinked F (root_of relinked) ≡ tree_from B sigs L F (root_of L)
        tree_stays =
            tree_of_sound made.0
            ∙ ap (tree_rooted (withdraw_signatures sigs b)) made.1
            ∙ replace_tree (λ x. x) sigs (withdraw_signatures sigs b) L (λ e p x y a z u. refl) [] w (tip g ds) O.placed
            (λ c m n. others c (O.filed c m).0 (λ e. n (Memᴰ.cast e b_in))) (ap leaf (same g (Memᴰ.head refl)).1)
            ∙ sym (tree_of_sound S ∙ ap (tree_rooted sigs) is_t)

        relink : Leaves relinked
        relink = record {
          kept = K;
          sound = made.0;
          stays = λ c x. tree_stays;
          loses = λ n. let x = sub g (Memᴰ.head refl) in let f = on g x.1 in absurd (n g (x.0, f.0, f.1, f.2, (leafP.1 g x.1).1 ∙ sym (leafP.1 b b_in).1));
        }

    -- the head leaves and its chain goes on
    pub head_leaves : {s : ℕ} (c : ℕ) (cs : List ℕ) (w : Way F s (tip b (c ∷ cs)) t) → Leaves (stores L (head_stores L b (spot B root_at w)))
    head_leaves c cs w = relink w (Memᴰ.head refl) (spot B root_at w) (next_of L b) (inl refl) c cs (
      stored_at L (withdrawal_stores L b []) (spot B root_at w) (next_of L b) [] (omega (arith, A'.inside, S.fits.links_long)) tt ∙ lh.3.0,
      lh.3.1,
      lh.3.2,
      chain_same B L L' c cs (λ d m. next d m) lh.3.3,
    )
        (λ d m. (not_b d m, Memᴰ.tail m))
        (λ d n m. rest d n (Memᴰ.cases_cons m))
      where
        A' : Apart B (spot B root_at w)
        A' = O.link (spot B root_at w) (spot_link B root_at w)

        L' : List ℕ
        L' = stores L (head_stores L b (spot B root_at w))

        lh : Holds B L (word L (spot B root_at w)) (tip b (c ∷ cs))
        lh = part_holds B L root_at w O.holds

        not_b : (d : ℕ) → Memᴰ d (c ∷ cs) → d ≢ b
        not_b d m e = chain_no_return B L b (c ∷ cs) lh.3 (Memᴰ.cast (sym e) m)

        next : (d : ℕ) → Memᴰ d (c ∷ cs) → next_of L' d ≡ next_of L d
        next d m =
            let f = O.filed d (part_blocks w d (Memᴰ.tail m)) in
            let n = not_b d m in
            stored_same L (head_stores L b (spot B root_at w)) (next_at d) (omega (arith, A'.row d f.0 f.1))

        rest : (d : ℕ) → d ≢ b → (d ≡ b) ⊎ Memᴰ d (c ∷ cs) → Memᴰ d (c ∷ cs)
        rest d n (inl e) = absurd (n e)
        rest d n (inr m) = m

    -- another block than the head leaves
    pub later_leaves : {s h : ℕ} {cs : List ℕ} (w : Way F s (tip h cs) t) (m : Memᴰ b cs) → Leaves (stores L (unlink_stores L b (before h m)))
    later_leaves {h = h} {cs = cs} w m = relink w (Memᴰ.tail m) (next_at (before h m)) (next_of L b) place h (without m) (
      stored_same L (unlink_stores L b (before h m)) (spot B root_at w) ((A'.row b b1 bB).0, ((A'.row b b1 bB).1, (A'.count, ((A'.row (before h m) xf.0 xf.1).0, tt)))) ∙ lh.0,
      lh.1,
      lh.2,
      chain_cut B L L' h b cs m lh.3 (stored_at L (withdrawal_stores L b []) (next_at (before h m)) (next_of L b) [] (omega (arith, xf, S.fits.links_long)) tt)
          (λ d y n z. stored_same L (unlink_stores L b (before h m)) (next_at d) (omega arith)),
    )
        (λ d y. sub d (Memᴰ.cases_cons y))
        (λ d n y. sup d n (Memᴰ.cases_cons y))
      where
        A' : Apart B (spot B root_at w)
        A' = O.link (spot B root_at w) (spot_link B root_at w)

        L' : List ℕ
        L' = stores L (unlink_stores L b (before h m))

        lh : Holds B L (word L (spot B root_at w)) (tip h cs)
        lh = part_holds B L root_at w O.holds

        xf : (1 ≤ before h m) × (before h m ≤ B) × (filed_of L (before h m) ≡ 1)
        xf = O.filed (before h m) (part_blocks w (before h m) (before_in h m))

        place : (next_at (before h m) ≡ spot B root_at w) ⊎ ((x : ℕ) × Memᴰ x (h ∷ cs) × (x ≢ b) × (next_at (before h m) ≡ next_at x))
        place = inr (before h m, before_in h m, before_other B L h b cs m lh.3, refl)

        sub : (d : ℕ) → (d ≡ h) ⊎ Memᴰ d (without m) → (d ≢ b) × Memᴰ d (h ∷ cs)
        sub d (inl e) = ((λ y. chain_no_return B L h cs lh.3 (Memᴰ.cast (sym e ∙ y) m)), Memᴰ.head e)
        sub d (inr y) = ((λ e. without_gone m (chain_distinct B L h cs lh.3).1 (Memᴰ.cast (sym e) y)), Memᴰ.tail (without_in m y))

        sup : (d : ℕ) → d ≢ b → (d ≡ h) ⊎ Memᴰ d cs → Memᴰ d (h ∷ without m)
        sup d n (inl e) = Memᴰ.head e
        sup d n (inr y) = Memᴰ.tail (without_keeps m n y)
