-- Where the walk says yes, the links spell a tree that is placed below the path, and it used as many nodes and blocks as that tree has.
-- Assumes nothing.
use Prim.Native.Nat.{ℕ, zero, suc, ◌+◌, ◌-◌, ◌≤◌, ◌<◌}
use native.Mathlib.Decide.{dec_lt, ℕ_discrete}
use native.Mathlib.Omega.{arith}
use mathlib.Core.Path.{◌≡◌, refl, sym, ◌∙◌, ap, subst}
use mathlib.Core.Logic.{◌⊎◌, inl, inr, ◌≢◌}
use mathlib.Core.List.{List, [], ◌∷◌, Memᴰ}
use lib.Bits.{bit_and}
use lib.ListN.{length, length-append}
use borrow.Author.Tests.{eq-eqb, ne_eqb}
use Rattle.std.specs.Prelude.{Option, None, Some}
use Rattle.model.specs.Tree.{Edge, edge, Untested, Agrees}
use Rattle.model.specs.Tables.{width_of, root_of, filed_of, position_of, left_of, right_of, signature_of}
use Rattle.model.specs.Sound.{Shape, tip, fork, Rooted, none, some, Holds, HoldsRoot, nodes, blocks, nodes_in, blocks_in, Placed, PlacedRoot}
use Rattle.audit.specs.declared.walk.Lent.{Lent}
use Rattle.audit.specs.Audit.{Tested, chain_twin, leaf_of, leaf_twin, look_twin, then_right, node_less, walk_twin, untested_all, tree_twin}
use Rattle.audit.proofs.ChainLaws.{no_some, From, from_chain, ChainIs, chain_yes}
use Rattle.audit.proofs.PathLaws.{Carried, carried_root, left_edge, right_edge, carried_edge}
use Rattle.audit.proofs.WalkLaws.{NodeIs, look_cases, leaf_zero, leaf_off, leaf_on, walk_leaf, walk_out, walk_done, walk_unfit, walk_fork}

module _ (S L : List ℕ) where
  -- a fit subtree at r below the path, which used what it was lent less what is left
  record Spelled (path : List Edge) (r : ℕ) (lent left : Lent) : Type 0 where
    shape : Shape
    holds : Holds (length S) L r shape
    placed : Placed (width_of L) S L path shape
    nodes_used : length (nodes shape) + left.nodes ≡ lent.nodes
    blocks_used : length (blocks shape) + left.blocks ≡ lent.blocks

  abbrev WalkIs : List Edge → ℕ → Lent → Option Lent → Type 0
  WalkIs path r lent w = (left : Lent) → w ≡ Some left → Spelled path r lent left

  leaf_yes : (path : List Edge) (t : Tested) (r : ℕ) (lent : Lent) → Carried (width_of L) path t → WalkIs path r lent (leaf_twin S L t r lent)
  leaf_yes path t r lent ca = go (ℕ_discrete r 0) (ℕ_discrete (bit_and (signature_of S r) t.mask) t.edges)
    where
      tipped : r ≢ 0 → bit_and (signature_of S r) t.mask ≡ t.edges → (blocks_left : ℕ) (list : List ℕ) → From (length S) L r list
          → ((x : ℕ) → Memᴰ x list → (filed_of L x ≡ 1) × (signature_of S x ≡ signature_of S r)) → length list + blocks_left ≡ lent.blocks → Spelled path r lent (record { nodes = lent.nodes; blocks = blocks_left })
      tipped nz q c [] f g u = absurd (nz f)
      tipped nz q c (h ∷ cs) f g u =
          let i : r ≡ h = f.0 in
          record {
            shape = tip h cs;
            holds = (i, f.1, f.2, from_chain (length S) L h cs f.3);
            placed = (subst (λ (x : ℕ). Agrees (width_of L) (signature_of S x) path) i ((ca.agree (signature_of S r)).0 q), λ x k. ((g x k).0, (g x k).1 ∙ ap (signature_of S) i));
            nodes_used = omega arith;
            blocks_used = u;
          }

      chained : r ≢ 0 → bit_and (signature_of S r) t.mask ≡ t.edges → (c : Option ℕ) → ChainIs S L (signature_of S r) lent.blocks r c → WalkIs path r lent (leaf_of lent c)
      chained nz q None h left x = no_some x
      chained nz q (Some b) h left x =
          let e : record { nodes = lent.nodes; blocks = b } ≡ left = cc in
          let y = h b refl in
          subst (Spelled path r lent) e (tipped nz q b y.list y.from y.good y.used)

      go : Dec (r ≡ 0) → Dec (bit_and (signature_of S r) t.mask ≡ t.edges) → WalkIs path r lent (leaf_twin S L t r lent)
      go (yes z) d = subst (WalkIs path r lent) (sym (leaf_zero S L t r lent z)) (λ left x. no_some x)
      go (no nz) (no ne) = subst (WalkIs path r lent) (sym (leaf_off S L t r lent nz ne)) (λ left x. no_some x)
      go (no nz) (yes q) = subst (WalkIs path r lent) (sym (leaf_on S L t r lent nz q)) (chained nz q (chain_twin lent.blocks S L (signature_of S r) r) (chain_yes S L (signature_of S r) lent.blocks r))

  -- the two sides of a node
  module _ (path : List Edge) (r i : ℕ) (lent : Lent) (at : r ≡ length S + i) (one : 1 ≤ i) (some_lent : 1 ≤ lent.nodes)
      (m : ℕ) (x : NodeIs L (length S) m i) (new : Untested (position_of (length S) L i) path)
      (right : Lent → Option Lent)
      (right_is : (rest : Lent) → WalkIs (edge (position_of (length S) L i) 1 ∷ path) (right_of (length S) L i) rest (right rest)) where
    sides : (a : Option Lent) → WalkIs (edge (position_of (length S) L i) 0 ∷ path) (left_of (length S) L i) (node_less lent) a → WalkIs path r lent (then_right right a)
    sides None left_is left y = no_some y
    sides (Some rest) left_is left y =
        let l = left_is rest refl in
        let k = right_is rest left y in
        record {
          shape = fork i (position_of (length S) L i) l.shape k.shape;
          holds = (at, one, x.below, refl, l.holds, k.holds);
          placed = (x.from, x.to, new, l.placed, k.placed);
          nodes_used = omega (arith, length-append (nodes l.shape) (nodes k.shape), l.nodes_used, k.nodes_used);
          blocks_used = omega (arith, length-append (blocks l.shape) (blocks k.shape), l.blocks_used, k.blocks_used);
        }

  walk_yes : (u : ℕ) (path : List Edge) (t : Tested) (r : ℕ) (lent : Lent) → Carried (width_of L) path t → WalkIs path r lent (walk_twin u S L t r lent)
  walk_yes zero path t r lent ca = go (dec_lt (length S) r)
    where
      go : Dec (length S < r) → WalkIs path r lent (walk_twin zero S L t r lent)
      go (yes h) = subst (WalkIs path r lent) (sym (walk_out S L t r zero lent h refl)) (λ left x. no_some x)
      go (no h) = subst (WalkIs path r lent) (sym (walk_leaf S L t r zero lent (omega arith))) (leaf_yes path t r lent ca)
  walk_yes (suc u) path t r lent ca = go (dec_lt (length S) r) (ℕ_discrete lent.nodes 0) (look_cases L (length S) t.mask (r - length S)) (walk_yes u)
    where
      go : Dec (length S < r) → Dec (lent.nodes ≡ 0) → (look_twin L (length S) t.mask (r - length S) ≡ None) ⊎ NodeIs L (length S) t.mask (r - length S)
          → ((path : List Edge) (t : Tested) (r : ℕ) (lent : Lent) → Carried (width_of L) path t → WalkIs path r lent (walk_twin u S L t r lent))
          → WalkIs path r lent (walk_twin (suc u) S L t r lent)
      go (no h) n d ih = subst (WalkIs path r lent) (sym (walk_leaf S L t r (suc u) lent (omega arith))) (leaf_yes path t r lent ca)
      go (yes h) (yes z) d ih = subst (WalkIs path r lent) (sym (walk_done S L t r (suc u) lent h z)) (λ left x. no_some x)
      go (yes h) (no nz) (inl z) ih = subst (WalkIs path r lent) (sym (walk_unfit S L t r (suc u) lent h (omega arith) z)) (λ left x. no_some x)
      go (yes h) (no nz) (inr x) ih =
          let i : ℕ = r - length S in
          let p : ℕ = position_of (length S) L i in
          let at : r ≡ length S + i = omega arith in
          let new : Untested p path = (ca.clear p x.from x.to).0 x.new in
          let cl = carried_edge ca p x.from x.to new (left_edge (width_of L) p) in
          let cr = carried_edge ca p x.from x.to new (right_edge (width_of L) p x.from x.to) in
          subst (WalkIs path r lent) (sym (walk_fork S L t r i u lent at (omega arith) (omega arith) x))
          (sides path r i lent at (omega arith) (omega arith) t.mask x new _ (λ rest. ih _ _ _ rest cr) _ (ih _ _ _ (node_less lent) cl))

  -- the tree from the root
  pub record Grown (lent left : Lent) : Type 0 where
    pub tree : Rooted
    pub holds : HoldsRoot (length S) L (root_of L) tree
    pub placed : PlacedRoot (width_of L) S L tree
    pub nodes_used : length (nodes_in tree) + left.nodes ≡ lent.nodes
    pub blocks_used : length (blocks_in tree) + left.blocks ≡ lent.blocks

  abbrev pub TreeIs : Lent → Option Lent → Type 0
  TreeIs lent w = (left : Lent) → w ≡ Some left → Grown lent left

  pub tree_yes : (lent : Lent) → TreeIs lent (tree_twin S L lent)
  unfolding tree_twin
  tree_yes lent = go (ℕ_discrete (root_of L) 0)
    where
      grown : (left : Lent) → Spelled [] (root_of L) lent left → Grown lent left
      grown left x = record { tree = some x.shape; holds = x.holds; placed = x.placed; nodes_used = x.nodes_used; blocks_used = x.blocks_used }

      go : Dec (root_of L ≡ 0) → TreeIs lent (tree_twin S L lent)
      go (yes z) = rw (eq-eqb (root_of L) 0 z, tree_twin) (λ left x. let e : lent ≡ left = cc in subst (Grown lent) e (record { tree = none; holds = z; placed = tt; nodes_used = omega arith; blocks_used = omega arith }))
      go (no nz) = rw (ne_eqb (root_of L) 0 nz, tree_twin) (λ left x. grown left (walk_yes (width_of L) [] untested_all (root_of L) lent (carried_root (width_of L)) left x))
