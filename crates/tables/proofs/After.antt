-- Sound tables stay sound when block b is filed (f = 1) or withdrawn (f = 0): what every such change keeps, and what is left to show.
-- It holds clause by clause: only b's row, the count, the part of the tree that changes and the free chain are new.
--
-- How a change is proved sound: `kept_filing` or `kept_withdrawal` gives `Kept` from the stores' addresses; `after` takes the new tree and
-- the new free chain; `after_graft` is `after` where the tree has another shape u in the place of the part v that a way leads to. `Old`
-- says what the tables' tree was, so that no caller looks into the sound value again. Each gives the new sound value with its tree, from
-- which `tree_of_sound` and `replace_tree` give the plain tree.
-- Assumes nothing.
use Prim.Native.Nat.{ℕ, ◌+◌, ◌-◌, ◌^◌, ◌≤◌, ◌<◌}
use native.Mathlib.Decide.{ℕ_discrete}
use native.Mathlib.Omega.{arith}
use mathlib.Core.Path.{◌≡◌, refl, sym, ◌∙◌, ap, subst}
use mathlib.Core.Logic.{◌⊎◌, inl, inr, ◌≢◌}
use mathlib.Core.List.Memᴰ
use mathlib.Core.List.{List, [], ◌∷◌, Memᴰ}
use lib.ListN.{length, set, length-set}
use lib.Seq.{get_or-set_same, get_or-set_other}
use Rattle.model.specs.Tables.{word, root_at, count_at, next_at, filed_at, width_of, told_blocks, root_of, free_of, count_of, next_of, filed_of, signature_of}
use Rattle.model.specs.Sound.{Shape, Rooted, some, Holds, HoldsRoot, Placed, PlacedRoot, nodes, blocks, nodes_in, blocks_in, FreeChain, SoundAt}
use Rattle.model.specs.Stores.{Store, ◌↤◌, stores}
use Rattle.model.specs.File.{filing_stores}
use Rattle.model.specs.Withdraw.{withdrawal_stores}
use Rattle.model.proofs.Stores.{Fresh, length_stores, stored_same, stored_at}
use Rattle.tables.proofs.Shapes.{blocks_range, blocks_placed, nodes_range}
use Rattle.tables.proofs.Counts.{filed_changed, filed_one}
use Rattle.tables.proofs.Ways.{Way, spot, replace, path_to}
use Rattle.tables.proofs.Links.{IsLink, Apart, link_apart}
use Rattle.tables.proofs.Graft.{SameNode, graft, graft_placed, graft_blocks_new, graft_blocks_old}

-- the signatures where block b's is set to v
module _ (sigs : List ℕ) (b v : ℕ) (b1 : 1 ≤ b) where
  pub signature_other : (c : ℕ) → 1 ≤ c → c ≢ b → signature_of (set sigs (b - 1) v) c ≡ signature_of sigs c
  signature_other c h n = get_or-set_other sigs (b - 1) (c - 1) v 0 (omega arith)

  pub signature_own : b ≤ length sigs → signature_of (set sigs (b - 1) v) b ≡ v
  signature_own h = get_or-set_same sigs (b - 1) v 0 (omega arith)

-- What sound tables with a tree are, with the tree's shape at hand.
pub record Old {B F : ℕ} {sigs L : List ℕ} (S : SoundAt B F sigs L) (t : Shape) : Type 0 where
  pub holds : Holds B L (root_of L) t
  pub placed : Placed F sigs L [] t
  pub chained : (c : ℕ) → 1 ≤ c → c ≤ B → filed_of L c ≡ 1 → Memᴰ c (blocks t)
  pub filed : (c : ℕ) → Memᴰ c (blocks t) → (1 ≤ c) × (c ≤ B) × (filed_of L c ≡ 1)
  pub node : (j : ℕ) → Memᴰ j (nodes t) → (1 ≤ j) × (j < B)
  pub outside : (j : ℕ) → Memᴰ j S.free → Memᴰ j (nodes t) → ⊥
  pub all : (j : ℕ) → 1 ≤ j → j < B → Memᴰ j (nodes t) ⊎ Memᴰ j S.free
  pub link : (a : ℕ) → IsLink B root_at t a → Apart B a

pub old : {B F : ℕ} {sigs L : List ℕ} (S : SoundAt B F sigs L) (t : Shape) → S.tree ≡ some t → Old S t
old {B} {F} {sigs} {L} S t is_t = record {
  holds = q;
  placed = pl;
  chained = λ c h h' f. subst (λ (x : Rooted). Memᴰ c (blocks_in x)) is_t (S.on_chain c h h' f);
  filed = λ c m. let r = blocks_range B L t (root_of L) q c m in (r.0, r.1, (blocks_placed B L F sigs [] t pl c m).0);
  node = nodes_range B L t (root_of L) q;
  outside = λ j m n. S.free_outside j m (subst (λ (x : Rooted). Memᴰ j (nodes_in x)) (sym is_t) n);
  all = λ j h h'. subst (λ (x : Rooted). Memᴰ j (nodes_in x) ⊎ Memᴰ j S.free) is_t (S.free_all j h h');
  link = link_apart B L t S.fits.blocks_from q;
}
  where
    q : Holds B L (root_of L) t
    q = subst (HoldsRoot B L (root_of L)) is_t S.holds

    pl : Placed F sigs L [] t
    pl = subst (PlacedRoot F sigs L) is_t S.placed

module _ {B F : ℕ} {sigs L : List ℕ} (S : SoundAt B F sigs L) (b : ℕ) (b1 : 1 ≤ b) (bB : b ≤ B) where
  -- what a change of block b leaves outside the tree and the free nodes; f is b's new filed word
  pub record Kept (f : ℕ) (L' : List ℕ) : Type 0 where
    pub long : length L' ≡ length L
    pub width : width_of L' ≡ width_of L
    pub told : told_blocks L' ≡ told_blocks L
    pub count : count_of L' + filed_of L b ≡ count_of L + f
    pub filed_own : filed_of L' b ≡ f
    pub next_own : f ≡ 0 → next_of L' b ≡ 0
    pub filed_same : (c : ℕ) → c ≢ b → 1 ≤ c → c ≤ B → filed_of L' c ≡ filed_of L c
    pub next_same : (c : ℕ) → c ≢ b → 1 ≤ c → c ≤ B → filed_of L c ≡ 0 → next_of L' c ≡ next_of L c

  -- stores to no such word
  pub record Quiet (ws : List Store) : Type 0 where
    pub width : Fresh 0 ws
    pub told : Fresh 1 ws
    pub count : Fresh count_at ws
    pub filed : (c : ℕ) → 1 ≤ c → c ≤ B → Fresh (filed_at c) ws
    pub next : (c : ℕ) → c ≢ b → 1 ≤ c → c ≤ B → filed_of L c ≡ 0 → Fresh (next_at c) ws

  pub kept_filing : (ws : List Store) → filed_of L b ≡ 0 → Quiet ws → Kept 1 (stores L (filing_stores L b ws))
  kept_filing ws z Q = record {
    long = length_stores L all;
    width = stored_same L all 0 (omega arith, (omega arith, Q.width));
    told = stored_same L all 1 (omega arith, (omega arith, Q.told));
    count = omega (arith, stored_at L ((filed_at b ↤ 1) ∷ []) count_at (count_of L + 1) ws (omega (arith, S.fits.links_long)) Q.count);
    filed_own = stored_at L [] (filed_at b) 1 ((count_at ↤ count_of L + 1) ∷ ws) (omega (arith, S.fits.links_long)) (omega arith, Q.filed b b1 bB);
    next_own = λ e. absurd (omega arith);
    filed_same = λ c n h h'. stored_same L all (filed_at c) (omega arith, (omega arith, Q.filed c h h'));
    next_same = λ c n h h' e. stored_same L all (next_at c) (omega arith, (omega arith, Q.next c n h h' e));
  }
    where
      all : List Store
      all = filing_stores L b ws

  pub kept_withdrawal : (ws : List Store) → filed_of L b ≡ 1 → Quiet ws → Fresh (next_at b) ws → Kept 0 (stores L (withdrawal_stores L b ws))
  kept_withdrawal ws o Q own = record {
    long = length_stores L all;
    width = stored_same L all 0 (omega arith, (omega arith, (omega arith, Q.width)));
    told = stored_same L all 1 (omega arith, (omega arith, (omega arith, Q.told)));
    count = omega (arith, stored_at L ((next_at b ↤ 0) ∷ (filed_at b ↤ 0) ∷ []) count_at (count_of L - 1) ws (omega (arith, S.fits.links_long)) Q.count, S.counted, filed_one L b B b1 bB);
    filed_own = stored_at L ((next_at b ↤ 0) ∷ []) (filed_at b) 0 ((count_at ↤ count_of L - 1) ∷ ws) (omega (arith, S.fits.links_long)) (omega arith, Q.filed b b1 bB);
    next_own = λ e. stored_at L [] (next_at b) 0 ((filed_at b ↤ 0) ∷ (count_at ↤ count_of L - 1) ∷ ws) (omega (arith, S.fits.links_long)) (omega arith, (omega arith, own));
    filed_same = λ c n h h'. stored_same L all (filed_at c) (omega arith, (omega arith, (omega arith, Q.filed c h h')));
    next_same = λ c n h h' e. stored_same L all (next_at c) (omega arith, (omega arith, (omega arith, Q.next c n h h' e)));
  }
    where
      all : List Store
      all = withdrawal_stores L b ws

  -- b's new filed word f and signature v: 0 where it is withdrawn
  module _ (f v : ℕ) (f1 : f ≤ 1) (small : v < 2 ^ F) (none_left : f ≡ 0 → v ≡ 0) (L' : List ℕ) (K : Kept f L') where
    -- the new sound value, with its tree
    abbrev pub Made : Rooted → Type 0
    Made t' = (T : SoundAt B F (set sigs (b - 1) v) L') × (T.tree ≡ t')

    pub after : (t' : Rooted) → HoldsRoot B L' (root_of L') t' → PlacedRoot F (set sigs (b - 1) v) L' t'
        → ((c : ℕ) → c ≢ b → Memᴰ c (blocks_in S.tree) → Memᴰ c (blocks_in t')) → (f ≡ 1 → Memᴰ b (blocks_in t'))
        → (free' : List ℕ) → FreeChain B L' (free_of L') free'
        → ((i : ℕ) → Memᴰ i free' → Memᴰ i (nodes_in t') → ⊥)
        → ((i : ℕ) → 1 ≤ i → i < B → Memᴰ i (nodes_in t') ⊎ Memᴰ i free')
        → Made t'
    after t' holds' placed' stay own free' chain outside all = (T, refl)
      where
        sigs' : List ℕ
        sigs' = set sigs (b - 1) v

        at_own : (c : ℕ) → c ≡ b → filed_of L' c ≡ f
        at_own c e = ap (filed_of L') e ∙ K.filed_own

        bit : (c : ℕ) → 1 ≤ c → c ≤ B → Dec (c ≡ b) → filed_of L' c ≤ 1
        bit c h h' (yes e) = omega (arith, at_own c e)
        bit c h h' (no n) = omega (arith, K.filed_same c n h h', S.filed_bit c h h')

        chained : (c : ℕ) → 1 ≤ c → c ≤ B → filed_of L' c ≡ 1 → Dec (c ≡ b) → Memᴰ c (blocks_in t')
        chained c h h' o (yes e) = Memᴰ.cast e (own (sym (at_own c e) ∙ o))
        chained c h h' o (no n) = stay c n (S.on_chain c h h' (sym (K.filed_same c n h h') ∙ o))

        blank : (c : ℕ) → 1 ≤ c → c ≤ B → filed_of L' c ≡ 0 → Dec (c ≡ b) → (next_of L' c ≡ 0) × (signature_of sigs' c ≡ 0)
        blank c h h' z (yes e) =
            let f0 = sym (at_own c e) ∙ z in
            (ap (next_of L') e ∙ K.next_own f0, ap (signature_of sigs') e ∙ signature_own sigs b v b1 (omega (arith, S.fits.sigs_long)) ∙ none_left f0)
        blank c h h' z (no n) =
            let z' = sym (K.filed_same c n h h') ∙ z in
            let o = S.blank c h h' z' in
            (K.next_same c n h h' z' ∙ o.0, signature_other sigs b v b1 c h n ∙ o.1)

        narrow : (c : ℕ) → 1 ≤ c → c ≤ B → Dec (c ≡ b) → signature_of sigs' c < 2 ^ F
        narrow c h h' (yes e) = subst (λ (y : ℕ). y < 2 ^ F) (sym (ap (signature_of sigs') e ∙ signature_own sigs b v b1 (omega (arith, S.fits.sigs_long)))) small
        narrow c h h' (no n) = subst (λ (y : ℕ). y < 2 ^ F) (sym (signature_other sigs b v b1 c h n)) (S.narrow c h h')

        T : SoundAt B F (set sigs (b - 1) v) L'
        T = record {
          fits = record {
            blocks_from = S.fits.blocks_from;
            blocks_to = S.fits.blocks_to;
            sigs_long = length-set sigs (b - 1) v ∙ S.fits.sigs_long;
            links_long = K.long ∙ S.fits.links_long;
            width_from = S.fits.width_from;
            width_to = S.fits.width_to;
            width_word = K.width ∙ S.fits.width_word;
            told_word = K.told ∙ S.fits.told_word;
          };
          tree = t';
          holds = holds';
          placed = placed';
          filed_bit = λ c h h'. bit c h h' (ℕ_discrete c b);
          on_chain = λ c h h' o. chained c h h' o (ℕ_discrete c b);
          counted = omega (arith, K.count, K.filed_own, S.counted, filed_changed L L' b B b1 bB K.filed_same);
          blank = λ c h h' z. blank c h h' z (ℕ_discrete c b);
          narrow = λ c h h'. narrow c h h' (ℕ_discrete c b);
          free = free';
          free_holds = chain;
          free_outside = outside;
          free_all = all;
        }

    -- with u in the place of the part v: outside the part b is not, and no word changes
    pub after_graft : (t : Shape) (is_t : S.tree ≡ some t) {s : ℕ} {part : Shape} (w : Way F s part t) (u : Shape)
        → ((c : ℕ) → Memᴰ c (blocks t) → (Memᴰ c (blocks part) → ⊥) → c ≢ b)
        → (root_at ≢ spot B root_at w → root_of L' ≡ root_of L)
        → ((c : ℕ) → Memᴰ c (blocks t) → (Memᴰ c (blocks part) → ⊥) → next_of L' c ≡ next_of L c)
        → ((j : ℕ) → Memᴰ j (nodes t) → (Memᴰ j (nodes part) → ⊥) → SameNode B L L' (spot B root_at w) j)
        → Holds B L' (word L' (spot B root_at w)) u → Placed F (set sigs (b - 1) v) L' (path_to [] w) u
        → ((c : ℕ) → c ≢ b → Memᴰ c (blocks part) → Memᴰ c (blocks u)) → (f ≡ 1 → Memᴰ b (blocks u))
        → (free' : List ℕ) → FreeChain B L' (free_of L') free'
        → ((i : ℕ) → Memᴰ i free' → Memᴰ i (nodes (replace w u)) → ⊥)
        → ((i : ℕ) → 1 ≤ i → i < B → Memᴰ i (nodes (replace w u)) ⊎ Memᴰ i free')
        → Made (some (replace w u))
    after_graft t is_t {s} {part} w u other root next node spelled put stay own free' chain outside all = after (some (replace w u))
        (graft B sigs L L' [] root_at w u O.holds O.placed (λ j m e h. omega (arith, O.node j m)) root next node spelled)
        (graft_placed B sigs L L' (set sigs (b - 1) v) [] w u same O.placed put)
        (λ c n m. late c n (graft_blocks_old w u c (subst (λ (x : Rooted). Memᴰ c (blocks_in x)) is_t m)))
        (λ e. graft_blocks_new w u b (own e))
        free' chain outside all
      where
        O : Old S t
        O = old S t is_t

        same : (c : ℕ) → Memᴰ c (blocks t) → (Memᴰ c (blocks part) → ⊥) → (filed_of L' c ≡ filed_of L c) × (signature_of (set sigs (b - 1) v) c ≡ signature_of sigs c)
        same c m n = let r = O.filed c m in let d = other c m n in (K.filed_same c d r.0 r.1, signature_other sigs b v b1 c r.0 d)

        late : (c : ℕ) → c ≢ b → Memᴰ c (blocks (replace w u)) ⊎ Memᴰ c (blocks part) → Memᴰ c (blocks (replace w u))
        late c n (inl m) = m
        late c n (inr m) = graft_blocks_new w u c (stay c n m)
