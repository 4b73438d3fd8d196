-- The steps of the walk's definitions, as the code takes them: a leaf, an unfit reference, a node with its two sides.
-- Assumes nothing.
use Prim.Native.Nat.{ℕ, zero, suc, ◌+◌, ◌-◌, ◌^◌, ◌≤◌, ◌<◌}
use native.Mathlib.Decide.{dec_lt, ℕ_discrete}
use native.Mathlib.Omega.{arith}
use mathlib.Core.Path.{◌≡◌, refl, sym, ◌∙◌, ap, ap₂}
use mathlib.Core.Logic.{◌⊎◌, inl, inr, ◌≢◌}
use mathlib.Core.Bool.{true, false}
use mathlib.Core.List.{List}
use lib.Bits.{bit_and}
use lib.Dec.{eqb}
use lib.ListN.{length}
use borrow.Author.Tests.{eq-eqb, ne_eqb, lt-ltb, le-ltb, le-leb, lt-leb}
use Rattle.std.specs.Prelude.{Option, None, Some}
use Rattle.model.specs.Signature.{bit_at}
use Rattle.model.specs.Tables.{width_of, next_of, filed_of, position_of, left_of, right_of, signature_of}
use Rattle.audit.specs.declared.walk.Lent.{Lent}
use Rattle.audit.proofs.ChainLaws.{head_none, head_next}
use Rattle.audit.specs.Audit.{Tested, Weighed, chain_twin, leaf_of, leaf_twin, look_twin, passed_by, node_less, sides_twin, node_twin, walk_twin}

-- a node that may stand below a mask
pub record NodeIs (L : List ℕ) (B m i : ℕ) : Type 0 where
  pub below : i < B
  pub from : 1 ≤ position_of B L i
  pub to : position_of B L i ≤ width_of L
  pub new : bit_at (width_of L) m (position_of B L i) ≡ 0

module _ (L : List ℕ) (B m i : ℕ) where
  -- the test of a node, as the code takes it
  pub look_far : B ≤ i → look_twin L B m i ≡ None
  unfolding look_twin
  look_far h = simp (le-leb _ _ h)

  module _ (h : i < B) {p : ℕ} (at : p ≡ position_of B L i) where
    pub look_none : p ≡ 0 → look_twin L B m i ≡ None
    unfolding look_twin
    look_none z = simp (lt-leb _ _ h, eq-eqb _ _ (sym at ∙ z))

    pub look_wide : p ≢ 0 → width_of L < p → look_twin L B m i ≡ None
    unfolding look_twin
    look_wide nz w = simp (lt-leb _ _ h, ← at, ne_eqb _ _ nz, lt-ltb _ _ w)

    pub look_again : p ≢ 0 → p ≤ width_of L → eqb (bit_at (width_of L) m p) 1 ≡ true → look_twin L B m i ≡ None
    unfolding look_twin
    look_again nz w o = simp (lt-leb _ _ h, ← at, ne_eqb _ _ nz, le-ltb _ _ w, o)

    pub look_new : p ≢ 0 → p ≤ width_of L → eqb (bit_at (width_of L) m p) 1 ≡ false → (l r : ℕ) → l ≡ left_of B L i → r ≡ right_of B L i
        → Some (record { weight = 2 ^ (width_of L - p); left = l; right = r }) ≡ look_twin L B m i
    unfolding look_twin
    look_new nz w o l r el er = simp (lt-leb _ _ h, ← at, ne_eqb _ _ nz, le-ltb _ _ w, o, el, er)

  look_whole : NodeIs L B m i → look_twin L B m i ≡ Some (record { weight = 2 ^ (width_of L - position_of B L i); left = left_of B L i; right = right_of B L i })
  look_whole x =
      let f = x.from in
      let z = x.new in
      let n1 : bit_at (width_of L) m (position_of B L i) ≢ 1 = omega arith in
      sym (look_new x.below refl (omega arith) x.to (ne_eqb _ _ n1) _ _ refl refl)

  pub look_cases : (look_twin L B m i ≡ None) ⊎ NodeIs L B m i
  look_cases = go (dec_lt i B) (ℕ_discrete (position_of B L i) 0) (dec_lt (width_of L) (position_of B L i)) (ℕ_discrete (bit_at (width_of L) m (position_of B L i)) 1)
    where
      go : Dec (i < B) → Dec (position_of B L i ≡ 0) → Dec (width_of L < position_of B L i) → Dec (bit_at (width_of L) m (position_of B L i) ≡ 1) → (look_twin L B m i ≡ None) ⊎ NodeIs L B m i
      go (no h) d₁ d₂ d₃ = inl (look_far (omega arith))
      go (yes h) (yes z) d₂ d₃ = inl (look_none h refl z)
      go (yes h) (no z) (yes k) d₃ = inl (look_wide h refl z k)
      go (yes h) (no z) (no k) (yes o) = inl (look_again h refl z (omega arith) (eq-eqb _ _ o))
      go (yes h) (no z) (no k) (no o) = inr (record { below = h; from = omega arith; to = omega arith; new = omega arith })

module _ (S L : List ℕ) (t : Tested) (r : ℕ) where
  pub leaf_zero : (lent : Lent) → r ≡ 0 → leaf_twin S L t r lent ≡ None
  unfolding leaf_twin
  leaf_zero lent z = simp (eq-eqb r 0 z)

  pub leaf_off : (lent : Lent) → r ≢ 0 → bit_and (signature_of S r) t.mask ≢ t.edges → leaf_twin S L t r lent ≡ None
  unfolding leaf_twin
  leaf_off lent nz ne = simp (ne_eqb r 0 nz, ne_eqb _ _ ne)

  pub leaf_on : (lent : Lent) → r ≢ 0 → bit_and (signature_of S r) t.mask ≡ t.edges → leaf_twin S L t r lent ≡ leaf_of lent (chain_twin lent.blocks S L (signature_of S r) r)
  unfolding leaf_twin
  leaf_on lent nz q = rw (ne_eqb r 0 nz, leaf_twin, eq-eqb _ _ q)

  -- the signature s of a leaf on the path: of its head only the filed word is asked, and then the rest of its chain
  module _ (lent : Lent) (nz : r ≢ 0) {s : ℕ} (at : s ≡ signature_of S r) (q : bit_and s t.mask ≡ t.edges) where
    agreed : leaf_twin S L t r lent ≡ leaf_of lent (chain_twin lent.blocks S L (signature_of S r) r)
    agreed = leaf_on lent nz (rw at at q)

    pub leaf_unfit : {f : ℕ} → f ≡ filed_of L r → (lent.blocks ≡ 0) ⊎ ((lent.blocks ≢ 0) × (f ≢ 1)) → None ≡ leaf_twin S L t r lent
    leaf_unfit e n = sym (agreed ∙ ap (leaf_of lent) (head_none S L r lent.blocks nz (rw e at n)))

    pub leaf_chain : r ≤ length S → lent.blocks ≢ 0 → {f : ℕ} → f ≡ filed_of L r → f ≡ 1 → {n : ℕ} → n ≡ next_of L r → {c : Option ℕ} → c ≡ chain_twin (lent.blocks - 1) S L s n
        → leaf_of lent c ≡ leaf_twin S L t r lent
    leaf_chain to nb e f n h =
        ap (leaf_of lent) (h ∙ ap₂ (λ (x y : ℕ). chain_twin (lent.blocks - 1) S L x y) at n) ∙ sym (agreed ∙ ap (leaf_of lent) (head_next S L r lent.blocks nz to nb (sym e ∙ f)))

  pub walk_leaf : (u : ℕ) (lent : Lent) → r ≤ length S → walk_twin u S L t r lent ≡ leaf_twin S L t r lent
  unfolding walk_twin
  walk_leaf zero lent le = simp (le-leb r (length S) le)
  walk_leaf (suc u) lent le = simp (le-leb r (length S) le)

  pub walk_out : (u : ℕ) (lent : Lent) → length S < r → u ≡ 0 → walk_twin u S L t r lent ≡ None
  unfolding walk_twin
  walk_out zero lent lt q = simp (lt-leb r (length S) lt)
  walk_out (suc u) lent lt q = absurd (omega arith)

  pub walk_done : (u : ℕ) (lent : Lent) → length S < r → lent.nodes ≡ 0 → walk_twin u S L t r lent ≡ None
  unfolding walk_twin
  walk_done zero lent lt q = simp (lt-leb r (length S) lt)
  walk_done (suc u) lent lt q = rw (lt-leb r (length S) lt, walk_twin) (go (look_twin L (length S) t.mask (r - length S)))
    where
      go : (d : Option Weighed) → node_twin (walk_twin u S L) t d lent ≡ None
      go None = refl
      go (Some d) = rw (eq-eqb _ _ q)

  -- with untested positions left
  module _ (u : ℕ) (lent : Lent) (lt : length S < r) (nu : u ≢ 0) where
    pub walk_unfit : look_twin L (length S) t.mask (r - length S) ≡ None → walk_twin u S L t r lent ≡ None
    unfolding walk_twin
    walk_unfit q = go u nu
      where
        go : (v : ℕ) → v ≢ 0 → walk_twin v S L t r lent ≡ None
        go zero nv = absurd (nv refl)
        go (suc v) nv = rw (lt-leb r (length S) lt, walk_twin, q)

    -- a node that may stand here, with a node lent: what the calls on its sides give, it gives
    module _ (nn : lent.nodes ≢ 0) (d : Weighed) (q : look_twin L (length S) t.mask (r - length S) ≡ Some d) where
      pub walk_node : walk_twin u S L t r lent ≡ sides_twin (walk_twin (u - 1) S L) t d lent
      unfolding walk_twin
      walk_node = go u nu
        where
          go : (v : ℕ) → v ≢ 0 → walk_twin v S L t r lent ≡ sides_twin (walk_twin (v - 1) S L) t d lent
          go zero nv = absurd (nv refl)
          go (suc v) nv = let e : suc v - 1 ≡ v = omega arith in rw (e, lt-leb r (length S) lt, walk_twin, q, ne_eqb _ _ nn)

      pub walk_stop : walk_twin (u - 1) S L (passed_by t d.weight 0) d.left (node_less lent) ≡ None → walk_twin u S L t r lent ≡ None
      walk_stop h = rw (walk_node, h)

      pub walk_both : (left : Lent) → walk_twin (u - 1) S L (passed_by t d.weight 0) d.left (node_less lent) ≡ Some left
          → walk_twin u S L t r lent ≡ walk_twin (u - 1) S L (passed_by t d.weight d.weight) d.right left
      walk_both left h = rw (walk_node, h)

-- a node that may stand here, with a node lent: its left side, then its right
pub walk_fork : (S L : List ℕ) (t : Tested) (r i u : ℕ) (lent : Lent) → r ≡ length S + i → 1 ≤ i → 1 ≤ lent.nodes → NodeIs L (length S) t.mask i
    → walk_twin (suc u) S L t r lent
    ≡ sides_twin (walk_twin u S L) t (record { weight = 2 ^ (width_of L - position_of (length S) L i); left = left_of (length S) L i; right = right_of (length S) L i }) lent
unfolding walk_twin
walk_fork S L t r i u lent q h n x =
    let d : r - length S ≡ i = omega arith in
    let nn : lent.nodes ≢ 0 = omega arith in
    rw (lt-leb r (length S) (omega arith), walk_twin, d, look_whole L (length S) t.mask i x, ne_eqb _ _ nn)
