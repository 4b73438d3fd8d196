-- On a tree that is held and placed the walk says yes, where it is lent at least the tree's nodes and blocks: what it was lent
-- beyond them is left.
-- Assumes nothing.
use Prim.Native.Nat.{ℕ, zero, suc, ◌+◌, ◌≤◌}
use native.Mathlib.Omega.{arith}
use mathlib.Core.Path.{◌≡◌, refl, sym, ◌∙◌, ap, subst}
use mathlib.Core.Logic.{◌≢◌}
use mathlib.Core.List.{List, [], ◌∷◌}
use lib.Bits.{bit_and}
use lib.ListN.{length, length-append}
use borrow.Author.Tests.{eq-eqb, ne_eqb}
use Rattle.std.specs.Prelude.{Option, Some}
use Rattle.model.specs.Tree.{Edge, edge}
use Rattle.model.specs.Tables.{width_of, root_of, position_of, left_of, right_of, signature_of}
use Rattle.model.specs.Sound.{Shape, tip, fork, Rooted, none, some, Holds, HoldsRoot, nodes, blocks, nodes_in, blocks_in, Placed, PlacedRoot}
use Rattle.tables.proofs.Trees.{depth, depth_root}
use Rattle.audit.specs.declared.walk.Lent.{Lent}
use Rattle.audit.specs.Audit.{Tested, leaf_of, node_less, walk_twin, untested_all, tree_twin}
use Rattle.audit.proofs.ChainLaws.{From, chain_from, chain_whole}
use Rattle.audit.proofs.PathLaws.{Carried, carried_root, left_edge, right_edge, carried_edge}
use Rattle.audit.proofs.WalkLaws.{NodeIs, leaf_on, walk_leaf, walk_fork}

-- a fit part, with n nodes and b blocks left
abbrev pub leaves : ℕ → ℕ → Option Lent
leaves n b = Some (record { nodes = n; blocks = b })

module _ (S L : List ℕ) where
  walk_whole : (t : Shape) (path : List Edge) (k : Tested) (r u : ℕ) (lent : Lent) (n b : ℕ) → Holds (length S) L r t → Placed (width_of L) S L path t → Carried (width_of L) path k → depth t ≤ u
      → lent.nodes ≡ length (nodes t) + n → lent.blocks ≡ length (blocks t) + b → walk_twin u S L k r lent ≡ leaves n b
  walk_whole (tip h cs) path k r u lent n b q pl ca d hn hb =
      let j : r ≡ h = q.0 in
      let one = q.1 in
      let to = q.2 in
      let nz : r ≢ 0 = omega arith in
      let en : lent.nodes ≡ n = omega arith in
      let on : bit_and (signature_of S r) k.mask ≡ k.edges = subst (λ (x : ℕ). bit_and (signature_of S x) k.mask ≡ k.edges) (sym j) ((ca.agree (signature_of S h)).1 pl.0) in
      let fr : From (length S) L r (h ∷ cs) = (j, one, to, chain_from (length S) L h cs q.3) in
      let ch = chain_whole S L (signature_of S r) b (h ∷ cs) lent.blocks r fr (λ c m. ((pl.1 c m).0, (pl.1 c m).1 ∙ ap (signature_of S) (sym j))) hb in
      walk_leaf S L k r u lent (omega arith) ∙ leaf_on S L k r lent nz on ∙ ap (leaf_of lent) ch ∙ ap (λ (x : ℕ). leaves x b) en
  walk_whole (fork i p l o) path k r zero lent n b q pl ca d hn hb = absurd (omega arith)
  walk_whole (fork i p l o) path k r (suc u) lent n b q pl ca d hn hb =
      let at : ℕ = position_of (length S) L i in
      let pl' : Placed (width_of L) S L path (fork i at l o) = subst (λ (x : ℕ). Placed (width_of L) S L path (fork i x l o)) (sym q.3) pl in
      let x : NodeIs L (length S) k.mask i = record { below = q.2; from = pl'.0; to = pl'.1; new = (ca.clear at pl'.0 pl'.1).1 pl'.2 } in
      let cl = carried_edge ca at pl'.0 pl'.1 pl'.2 (left_edge (width_of L) at) in
      let cr = carried_edge ca at pl'.0 pl'.1 pl'.2 (right_edge (width_of L) at pl'.0 pl'.1) in
      let nn = length-append (nodes l) (nodes o) in
      let nb = length-append (blocks l) (blocks o) in
      let el = walk_whole l (edge at 0 ∷ path) _ (left_of (length S) L i) u (node_less lent) (length (nodes o) + n) (length (blocks o) + b) q.4 pl'.3 cl (omega arith) (omega arith) (omega arith) in
      let er = walk_whole o (edge at 1 ∷ path) _ (right_of (length S) L i) u (record { nodes = length (nodes o) + n; blocks = length (blocks o) + b }) n b q.5 pl'.4 cr (omega arith) refl refl in
      walk_fork S L k r i u lent q.0 q.1 (omega arith) x ∙ rw el er

  pub tree_whole : (t : Rooted) (n b n' b' : ℕ) → HoldsRoot (length S) L (root_of L) t → PlacedRoot (width_of L) S L t → n ≡ length (nodes_in t) + n' → b ≡ length (blocks_in t) + b'
      → tree_twin S L (record { nodes = n; blocks = b }) ≡ leaves n' b'
  unfolding tree_twin
  tree_whole none n b n' b' q pl hn hb =
      let en : n ≡ n' = omega arith in
      let eb : b ≡ b' = omega arith in
      rw (eq-eqb (root_of L) 0 q, tree_twin, en, eb)
  tree_whole (some t) n b n' b' q pl hn hb =
      let nz : root_of L ≢ 0 = root t q in
      rw (ne_eqb (root_of L) 0 nz, tree_twin)
      (walk_whole t [] untested_all (root_of L) (width_of L) (record { nodes = n; blocks = b }) n' b' q pl (carried_root (width_of L)) (depth_root (width_of L) S L t pl) hn hb)
    where
      root : (t : Shape) → Holds (length S) L (root_of L) t → root_of L ≢ 0
      root (tip h cs) q = let a = q.0 in let c = q.1 in omega arith
      root (fork i p l k) q = let a = q.0 in let c = q.1 in omega arith
