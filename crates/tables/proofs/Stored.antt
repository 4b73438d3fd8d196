-- The plain tree of sound tables and their ledger: its leaves are the stored signatures, each once. A leaf has its head block's
-- signature, and every filed block stands on the chain of its signature's leaf.
-- Assumes nothing.
use Prim.Native.Nat.{ℕ, ◌-◌}
use native.Mathlib.Omega.{arith}
use mathlib.Core.Path.{◌≡◌, refl, sym, ◌∙◌, ap, subst}
use mathlib.Core.Logic.{◌⊎◌, inl, inr, ⊎_elim}
use mathlib.Core.Bool.{true}
use mathlib.Core.List.Memᴰ
use mathlib.Core.List.{List, [], ◌∷◌, Memᴰ}
use lib.ListN.{length}
use Rattle.model.specs.Basics.{has}
use Rattle.model.specs.Tree.{Tree, signatures, Edge, edge}
use Rattle.model.specs.Tables.{width_of, root_of, left_of, right_of, signature_of, tree_of}
use Rattle.model.specs.Sound.{Shape, tip, fork, Rooted, none, some, Holds, HoldsRoot, Placed, PlacedRoot, blocks, blocks_in, nodes_in, Sound}
use Rattle.model.specs.Ledger.{pair_signatures, is_stored, stored, ledger_of}
use Rattle.model.specs.Claim.{Leads, Paths}
use Rattle.model.proofs.Members.{has_in, in_has, has_same, once_in, in_once, once_distinct, Same, same_members, same_length}
use Rattle.model.proofs.Trees.{Proper, leaves_distinct}
use Rattle.model.proofs.Paths.{path_agrees, path_only}
use Rattle.tables.proofs.Shapes.{blocks_range, blocks_placed}
use Rattle.tables.proofs.Trees.{shape_tree, tree_rooted, tree_of_sound, tree_proper}
use Rattle.tables.proofs.Facts.{one_node_less}
use Rattle.tables.proofs.Holders.{Holder, stored_holder, holder_stored}

-- the leaves of a shape and its blocks
leaf_block : (sigs : List ℕ) (t : Shape) (s : ℕ) → Memᴰ s (signatures (shape_tree sigs t)) → (c : ℕ) × Memᴰ c (blocks t) × (signature_of sigs c ≡ s)
unfolding signatures
leaf_block sigs (tip h cs) s m = (h, Memᴰ.head refl, go (Memᴰ.cases_cons m))
  where
    go : (s ≡ signature_of sigs h) ⊎ Memᴰ s [] → signature_of sigs h ≡ s
    go (inl e) = sym e
    go (inr n) = absurd (Memᴰ.not-nil n)
leaf_block sigs (fork i p l k) s m =
    ⊎_elim (λ n. let r = leaf_block sigs l s n in (r.0, Memᴰ.append_left (blocks k) r.1, r.2)) (λ n. let r = leaf_block sigs k s n in (r.0, Memᴰ.append_right (blocks l) r.1, r.2))
    (Memᴰ.append_cases (signatures (shape_tree sigs l)) m)

block_leaf : (F : ℕ) (sigs L : List ℕ) (es : List Edge) (t : Shape) → Placed F sigs L es t → (c : ℕ) → Memᴰ c (blocks t) → Memᴰ (signature_of sigs c) (signatures (shape_tree sigs t))
unfolding signatures
block_leaf F sigs L es (tip h cs) q c m = Memᴰ.head (q.1 c m).1
block_leaf F sigs L es (fork i p l k) q c m =
    ⊎_elim (λ n. Memᴰ.append_left (signatures (shape_tree sigs k)) (block_leaf F sigs L (edge p 0 ∷ es) l q.3 c n))
    (λ n. Memᴰ.append_right (signatures (shape_tree sigs l)) (block_leaf F sigs L (edge p 1 ∷ es) k q.4 c n)) (Memᴰ.append_cases (blocks l) m)

-- the references of a shape lead to its plain tree
leads_shape : (sigs L : List ℕ) (t : Shape) (r : ℕ) → Holds (length sigs) L r t → Leads sigs L r (shape_tree sigs t)
leads_shape sigs L (tip h cs) r q = let a = q.0 in let b = q.1 in let c = q.2 in (omega arith, omega arith, ap (signature_of sigs) q.0)
leads_shape sigs L (fork i p l k) r q =
    (i, q.0, q.1, q.2, q.3, leads_shape sigs L l (left_of (length sigs) L i) q.4, leads_shape sigs L k (right_of (length sigs) L i) q.5)

module _ (sigs links : List ℕ) (S : Sound sigs links) where
  -- the references lead to the plain tree
  pub leads_of : Leads sigs links (root_of links) (tree_of sigs links)
  leads_of = subst (Leads sigs links (root_of links)) (sym (tree_of_sound S)) (go S.tree S.holds)
    where
      go : (u : Rooted) → HoldsRoot (length sigs) links (root_of links) u → Leads sigs links (root_of links) (tree_rooted sigs u)
      go none q = q
      go (some t) q = leads_shape sigs links t (root_of links) q

  pub sound_proper : Proper (width_of links) (tree_of sigs links)
  sound_proper = tree_proper S

  -- every leaf's signature is a filed block's
  pub leaf_holder : (s : ℕ) → Memᴰ s (signatures (tree_of sigs links)) → Holder sigs links s
  unfolding signatures
  leaf_holder s m = go S.tree S.holds S.placed (subst (λ (x : Tree). Memᴰ s (signatures x)) (tree_of_sound S) m)
    where
      go : (u : Rooted) → HoldsRoot (length sigs) links (root_of links) u → PlacedRoot (width_of links) sigs links u → Memᴰ s (signatures (tree_rooted sigs u)) → Holder sigs links s
      go none h q n = absurd (Memᴰ.not-nil n)
      go (some t) h q n =
          let r = leaf_block sigs t s n in
          let g = blocks_range (length sigs) links t (root_of links) h r.0 r.1 in
          record { block = r.0; from = g.0; to = g.1; filed = omega (arith, (blocks_placed (length sigs) links (width_of links) sigs [] t q r.0 r.1).0); its = r.2 }

  -- every filed block's signature is a leaf's
  pub holder_leaf : (s : ℕ) → Holder sigs links s → Memᴰ s (signatures (tree_of sigs links))
  holder_leaf s H =
      subst (λ (x : Tree). Memᴰ s (signatures x)) (sym (tree_of_sound S))
      (subst (λ (y : ℕ). Memᴰ y (signatures (tree_rooted sigs S.tree))) H.its
      (go S.tree S.placed (S.on_chain H.block H.from H.to (omega (arith, H.filed, S.filed_bit H.block H.from H.to)))))
    where
      go : (u : Rooted) → PlacedRoot (width_of links) sigs links u → Memᴰ H.block (blocks_in u) → Memᴰ (signature_of sigs H.block) (signatures (tree_rooted sigs u))
      go none q m = absurd (Memᴰ.not-nil m)
      go (some t) q m = block_leaf (width_of links) sigs links [] t q H.block m

  -- so the leaves are the stored signatures
  abbrev pairs : List ℕ
  pairs = pair_signatures (ledger_of sigs links).entries

  leaf_pair : (s : ℕ) → Memᴰ s (signatures (tree_of sigs links)) → Memᴰ s pairs
  leaf_pair s m = has_in s pairs (holder_stored sigs links s (leaf_holder s m))

  pair_leaf : (s : ℕ) → Memᴰ s pairs → Memᴰ s (signatures (tree_of sigs links))
  pair_leaf s m = holder_leaf s (stored_holder sigs links s (in_has s pairs m))

  pub leaves_stored : (s : ℕ) → has s (signatures (tree_of sigs links)) ≡ is_stored s (ledger_of sigs links)
  leaves_stored s = has_same s (signatures (tree_of sigs links)) pairs (leaf_pair s) (pair_leaf s)

  pub stored_leaf : (s : ℕ) → is_stored s (ledger_of sigs links) ≡ true → Memᴰ s (signatures (tree_of sigs links))
  stored_leaf s e = has_in s (signatures (tree_of sigs links)) (leaves_stored s ∙ e)

  pub stored_leaves : Same (stored (ledger_of sigs links)) (signatures (tree_of sigs links))
  stored_leaves =
      same_members (stored (ledger_of sigs links)) (signatures (tree_of sigs links)) (once_distinct pairs) (leaves_distinct (width_of links) (tree_of sigs links) sound_proper)
      (λ s m. pair_leaf s (once_in pairs s m)) (λ s m. in_once pairs s (leaf_pair s m))

  pub paths_of : Paths (ledger_of sigs links) (tree_of sigs links)
  paths_of = record {
    leaves = leaves_stored;
    single = sym (same_length (stored (ledger_of sigs links)) (signatures (tree_of sigs links)) stored_leaves);
    agrees = λ s e. path_agrees (width_of links) (tree_of sigs links) sound_proper s (stored_leaf s e);
    others = λ s u e d n a. n (path_only (width_of links) (tree_of sigs links) sound_proper s u (stored_leaf s e) (stored_leaf u d) a);
  }

  -- d distinct stored signatures have d - 1 nodes
  pub node_count : length (nodes_in S.tree) ≡ length (stored (ledger_of sigs links)) - 1
  unfolding signatures
  node_count = go S.tree (same_length (stored (ledger_of sigs links)) (signatures (tree_of sigs links)) stored_leaves ∙ ap (λ (x : Tree). length (signatures x)) (tree_of_sound S))
    where
      go : (u : Rooted) → length (stored (ledger_of sigs links)) ≡ length (signatures (tree_rooted sigs u)) → length (nodes_in u) ≡ length (stored (ledger_of sigs links)) - 1
      go none e = omega arith
      go (some t) e = omega (arith, one_node_less sigs t)
