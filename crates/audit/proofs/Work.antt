-- The audit's work is linear on any words: what a walk looks at is paid from what it is lent, and what a fit part leaves was not
-- used. So the tree and the free chain together look at no more than B - 1 nodes, and the chains at no more than B blocks.
-- Assumes nothing.
use Prim.Native.Nat.{ℕ, zero, suc, ◌+◌, ◌-◌, ◌≤◌}
use native.Mathlib.Omega.{arith}
use mathlib.Core.Path.{◌≡◌, refl, subst}
use mathlib.Core.Bool.{Bool, true, false}
use mathlib.Core.List.{List}
use lib.Bits.{bit_and}
use lib.Dec.{eqb, leb}
use lib.ListN.{length}
use borrow.Author.Tests.{eqb-true, eqb-false}
use Rattle.std.specs.Prelude.{Option, None, Some}
use Rattle.model.specs.Basics.{pick}
use Rattle.model.specs.Tables.{width_of, root_of, free_of, count_of, next_of, left_of, signature_of, blocks_of, signatures_of}
use Rattle.model.specs.Wide.{word_count}
use Rattle.model.specs.Questions.{asks_tables, tables_fit}
use Rattle.model.proofs.Wide.{signatures_length}
use Rattle.tables.proofs.Counts.{filed_few}
use Rattle.audit.specs.declared.walk.Lent.{Lent}
use Rattle.audit.specs.Audit.{Tested, Weighed, rows_ok, block_ok, chain_twin, leaf_of, leaf_twin, look_twin, passed_by, node_less, then_right, sides_twin, node_twin, walk_twin, untested_all, tree_twin, free_ok, lent_tree}
use Rattle.audit.specs.Work.{Seen, none, one, plus, chain_seen, leaf_seen, right_seen, sides_seen, node_seen, walk_seen, tree_seen, free_seen, rest_seen, comes_to_tree, tree_work, rest_work, free_work}
use Rattle.model.proofs.Picks.{pick_true}
use Rattle.audit.proofs.RowLaws.{rows_yes}
use Rattle.audit.proofs.ChainLaws.{no_some}

-- no more than was lent; and what a fit part leaves was not used
record Paid (lent : Lent) (x : Seen) (w : Option Lent) : Type 0 where
  nodes_lent : x.nodes ≤ lent.nodes
  blocks_lent : x.blocks ≤ lent.blocks
  nodes_kept : (left : Lent) → w ≡ Some left → x.nodes + left.nodes ≤ lent.nodes
  blocks_kept : (left : Lent) → w ≡ Some left → x.blocks + left.blocks ≤ lent.blocks

record ChainPaid (k x : ℕ) (c : Option ℕ) : Type 0 where
  lent : x ≤ k
  kept : (left : ℕ) → c ≡ Some left → x + left ≤ k

-- nothing is used
all_left : (k : ℕ) → ChainPaid k 0 (Some k)
all_left k = record { lent = omega arith; kept = λ left x. let e : k ≡ left = cc in omega arith }

stuck : (k y : ℕ) → y ≤ k → ChainPaid k y None
stuck k y h = record { lent = h; kept = λ left x. no_some x }

chain_paid : (S L : List ℕ) (s k b : ℕ) → ChainPaid k (chain_seen k S L s b) (chain_twin k S L s b)
unfolding chain_seen chain_twin
chain_paid S L s zero b = go (eqb b 0)
  where
    go : (z : Bool) → ChainPaid zero 0 (pick z (Some 0) None)
    go true = all_left 0
    go false = stuck 0 0 (omega arith)
chain_paid S L s (suc k) b = go (eqb b 0) (block_ok S L s b) _ _ (chain_paid S L s k (next_of L b))
  where
    go : (z t : Bool) (y : ℕ) (c : Option ℕ) → ChainPaid k y c → ChainPaid (suc k) (pick z 0 (pick t (suc y) 1)) (pick z (Some (suc k)) (pick t c None))
    go true t y c h = all_left (suc k)
    go false true y c h = record { lent = omega (arith, h.lent); kept = λ left x. omega (arith, h.kept left x) }
    go false false y c h = stuck (suc k) 1 (omega arith)

failed : (lent : Lent) (x : Seen) → x.nodes ≤ lent.nodes → x.blocks ≤ lent.blocks → Paid lent x None
failed lent x n b = record { nodes_lent = n; blocks_lent = b; nodes_kept = λ left x. no_some x; blocks_kept = λ left x. no_some x }

none_paid : (lent : Lent) → Paid lent none None
none_paid lent = failed lent none (omega arith) (omega arith)

leaf_paid : (S L : List ℕ) (t : Tested) (r : ℕ) (lent : Lent) → Paid lent (leaf_seen S L t r lent) (leaf_twin S L t r lent)
unfolding leaf_seen leaf_twin
leaf_paid S L t r lent = go (eqb r 0) (eqb (bit_and (signature_of S r) t.mask) t.edges) _ _ (chain_paid S L (signature_of S r) lent.blocks r)
  where
    chained : (y : ℕ) (c : Option ℕ) → ChainPaid lent.blocks y c → Paid lent (record { nodes = 0; blocks = y }) (leaf_of lent c)
    chained y None h = failed lent (record { nodes = 0; blocks = y }) (omega arith) h.lent
    chained y (Some b) h = let k = h.kept b refl in record {
      nodes_lent = omega arith;
      blocks_lent = h.lent;
      nodes_kept = λ left x. let e : record { nodes = lent.nodes; blocks = b } ≡ left = cc in subst (λ (l : Lent). 0 + l.nodes ≤ lent.nodes) e (omega arith);
      blocks_kept = λ left x. let e : record { nodes = lent.nodes; blocks = b } ≡ left = cc in subst (λ (l : Lent). y + l.blocks ≤ lent.blocks) e k;
    }

    go : (z o : Bool) (y : ℕ) (c : Option ℕ) → ChainPaid lent.blocks y c
        → Paid lent (pick z none (pick o (record { nodes = 0; blocks = y }) none)) (pick z None (pick o (leaf_of lent c) None))
    go true o y c h = none_paid lent
    go false true y c h = chained y c h
    go false false y c h = none_paid lent

-- a node: itself, then its two sides in turn
sides_paid : (lent : Lent) → 1 ≤ lent.nodes → (x : Seen) (a : Option Lent) → Paid (node_less lent) x a
    → (look : Lent → Seen) (right : Lent → Option Lent) → ((rest : Lent) → Paid rest (look rest) (right rest)) → Paid lent (plus one (plus x (right_seen look a))) (then_right right a)
sides_paid lent n x None h look right paid = failed lent (plus one (plus x none)) (omega (arith, h.nodes_lent)) (omega (arith, h.blocks_lent))
sides_paid lent n x (Some rest) h look right paid =
    let g = paid rest in
    let hn = h.nodes_kept rest refl in
    let hb = h.blocks_kept rest refl in
    record {
      nodes_lent = omega (arith, g.nodes_lent);
      blocks_lent = omega (arith, g.blocks_lent);
      nodes_kept = λ left z. omega (arith, g.nodes_kept left z);
      blocks_kept = λ left z. omega (arith, g.blocks_kept left z);
    }

module _ (look : Tested → ℕ → Lent → Seen) (walk : Tested → ℕ → Lent → Option Lent) (paid : (t : Tested) (r : ℕ) (lent : Lent) → Paid lent (look t r lent) (walk t r lent)) where
  node_paid : (t : Tested) (d : Option Weighed) (lent : Lent) → Paid lent (node_seen look walk t d lent) (node_twin walk t d lent)
  node_paid t None lent = go (eqb lent.nodes 0) refl
    where
      go : (z : Bool) → eqb lent.nodes 0 ≡ z → Paid lent (pick z none one) None
      go true e = none_paid lent
      go false e = failed lent one (omega (arith, eqb-false lent.nodes 0 e)) (omega arith)
  node_paid t (Some d) lent = go (eqb lent.nodes 0) refl
    where
      go : (z : Bool) → eqb lent.nodes 0 ≡ z → Paid lent (pick z none (plus one (sides_seen look walk t d lent))) (pick z None (sides_twin walk t d lent))
      go true e = none_paid lent
      go false e =
          sides_paid lent (omega (arith, eqb-false lent.nodes 0 e)) _ (walk (passed_by t d.weight 0) d.left (node_less lent)) (paid _ _ _)
          (look (passed_by t d.weight d.weight) d.right) (walk (passed_by t d.weight d.weight) d.right) (λ rest. paid _ _ rest)

walk_paid : (S L : List ℕ) (u : ℕ) (t : Tested) (r : ℕ) (lent : Lent) → Paid lent (walk_seen u S L t r lent) (walk_twin u S L t r lent)
unfolding walk_seen walk_twin
walk_paid S L zero t r lent = go (leb r (length S)) _ _ (leaf_paid S L t r lent)
  where
    go : (z : Bool) (x : Seen) (w : Option Lent) → Paid lent x w → Paid lent (pick z x none) (pick z w None)
    go true x w h = h
    go false x w h = none_paid lent
walk_paid S L (suc u) t r lent =
    go (leb r (length S)) _ _ (leaf_paid S L t r lent) _ _ (node_paid (walk_seen u S L) (walk_twin u S L) (walk_paid S L u) t (look_twin L (length S) t.mask (r - length S)) lent)
  where
    go : (z : Bool) (x : Seen) (w : Option Lent) → Paid lent x w → (y : Seen) (v : Option Lent) → Paid lent y v → Paid lent (pick z x y) (pick z w v)
    go true x w h y v k = h
    go false x w h y v k = k

tree_paid : (S L : List ℕ) (lent : Lent) → Paid lent (tree_seen S L lent) (tree_twin S L lent)
unfolding tree_seen tree_twin
tree_paid S L lent = go (eqb (root_of L) 0) _ _ (walk_paid S L (width_of L) untested_all (root_of L) lent)
  where
    go : (z : Bool) (x : Seen) (w : Option Lent) → Paid lent x w → Paid lent (pick z none x) (pick z (Some lent) w)
    go true x w h = record {
      nodes_lent = omega arith;
      blocks_lent = omega arith;
      nodes_kept = λ left y. let e : lent ≡ left = cc in subst (λ (l : Lent). 0 + l.nodes ≤ lent.nodes) e (omega arith);
      blocks_kept = λ left y. let e : lent ≡ left = cc in subst (λ (l : Lent). 0 + l.blocks ≤ lent.blocks) e (omega arith);
    }
    go false x w h = h

free_paid : (L : List ℕ) (B k i : ℕ) → free_seen k L B i ≤ k
unfolding free_seen
free_paid L B zero i = omega arith
free_paid L B (suc k) i = go (free_ok L B i) (free_paid L B k (left_of B L i))
  where
    go : (z : Bool) → free_seen k L B (left_of B L i) ≤ k → pick z (suc (free_seen k L B (left_of B L i))) 1 ≤ suc k
    go true h = omega arith
    go false h = omega arith

rest_paid : (L : List ℕ) (B : ℕ) (lent : Lent) (x : Seen) (w : Option Lent) → Paid lent x w → x.nodes + rest_seen L B w ≤ lent.nodes
rest_paid L B lent x None h = omega (arith, h.nodes_lent)
rest_paid L B lent x (Some left) h = go (eqb left.blocks 0)
  where
    go : (o : Bool) → x.nodes + pick o (free_seen left.nodes L B (free_of L)) 0 ≤ lent.nodes
    go true = omega (arith, h.nodes_kept left refl, free_paid L B left.nodes (free_of L))
    go false = omega (arith, h.nodes_lent)

-- the audit of any words
module _ (words L : List ℕ) where
  abbrev S : List ℕ
  S = signatures_of words L

  count : length (signatures_of words L) ≡ blocks_of L
  count = signatures_length (word_count (width_of L)) (blocks_of L) words

  -- where it comes to the tree, no more blocks are lent than there are
  lent_few : comes_to_tree words L ≡ true → count_of L ≤ length S
  unfolding comes_to_tree
  lent_few e =
      let p = pick_true (tables_fit (asks_tables words L)) _ e in
      let q = pick_true (rows_ok S L (length S)) _ p.1 in
      omega (arith, eqb-true (count_of L) _ q.1, filed_few L (length S) (λ b x y. (rows_yes S L (length S) q.0 b x y).bit))

  -- what it looks at
  pub work : ((tree_work words L).nodes + free_work words L ≤ blocks_of L - 1) × ((tree_work words L).blocks ≤ blocks_of L)
  unfolding tree_work free_work
  work = go (comes_to_tree words L) refl
    where
      go : (z : Bool) → comes_to_tree words L ≡ z
          → ((pick z (tree_seen S L (lent_tree S L)) none).nodes + pick z (rest_work S L) 0 ≤ blocks_of L - 1) × ((pick z (tree_seen S L (lent_tree S L)) none).blocks ≤ blocks_of L)
      go true e =
          let h = tree_paid S L (lent_tree S L) in
          let r = rest_paid L (length S) (lent_tree S L) _ _ h in
          (omega (arith, r, count), omega (arith, h.blocks_lent, lent_few e, count))
      go false e = (omega arith, omega arith)
