-- What a search compares and reads in a proper tree. At a node set in the query the left side's paths all have a 0 edge there, and
-- elsewhere the node bars nothing: so the leaves compared are those whose path has no 0 edge where the query has a 1.
-- Assumes nothing.
use Prim.Native.Nat.{ℕ, zero, suc, ◌+◌, ◌-◌, ◌*◌, ◌≤◌, zero-le}
use native.Mathlib.Nat.{le_refl, suc-mul, mul-add}
use native.Mathlib.Omega.{arith}
use mathlib.Core.Path.{◌≡◌, refl, sym, ◌∙◌, ap, ap₂}
use mathlib.Core.Logic.{◌⊎◌, inl, inr}
use mathlib.Core.Bool.{not, ◌&&◌}
use mathlib.Core.List.{List, [], ◌∷◌, ◌++◌}
use lib.Dec.{eqb}
use lib.ListN.{length, length-append}
use Rattle.model.specs.Basics.{keep}
use Rattle.model.specs.Signature.{bit_at}
use Rattle.model.specs.Tree.{Tree, nothing, leaf, node, signatures, Edge, edge, path, no_zero_edge, reached, compared, nodes_read}
use Rattle.model.proofs.Bits.{bit_cases}
use Rattle.model.proofs.Members.{Same, same_length}
use Rattle.model.proofs.Keep.{keep_append, keep_few, keep_none, keep_same, keep_cong}
use Rattle.model.proofs.Trees.{Below, Proper, height, height_fits}
use Rattle.model.proofs.Paths.{path_left, path_right}

-- one node, its left side's n nodes and c compares, its right side's, at most m nodes to a compare
shared : (m x y c d n : ℕ) → n ≡ c + d → x ≤ m * c → y ≤ m * d → 1 ≤ d → 1 + (x + y) ≤ suc m * n
shared m x y c d n e a b h = rw e (omega (arith, suc-mul m (c + d), mul-add m c d))

module _ (F q : ℕ) where
  -- a node bars a path only by a 0 edge where the query has a 1
  pub bar_open : (p e : ℕ) (es : List Edge) → bit_at F q p ≡ 0 → no_zero_edge F q (edge p e ∷ es) ≡ no_zero_edge F q es
  unfolding no_zero_edge
  bar_open p e es h = rw (h, no_zero_edge)

  pub bar_set : (p e : ℕ) (es : List Edge) → bit_at F q p ≡ 1 → no_zero_edge F q (edge p e ∷ es) ≡ (not (eqb e 0) && no_zero_edge F q es)
  unfolding no_zero_edge
  bar_set p e es h = rw (h, no_zero_edge)

  reached_below : (es : List Edge) (t : Tree) → Below F es t → compared F q t ≡ reached F q t (signatures t)
  unfolding compared signatures keep path no_zero_edge
  reached_below es nothing f = absurd f
  reached_below es (leaf s) f = refl
  reached_below es (node p l r) f = go (bit_cases F q p) (reached_below (edge p 0 ∷ es) l f.3) (reached_below (edge p 1 ∷ es) r f.4)
    where
      apart : reached F q (node p l r) (signatures l ++ signatures r) ≡ reached F q (node p l r) (signatures l) ++ reached F q (node p l r) (signatures r)
      apart = keep_append (λ s. no_zero_edge F q (path s (node p l r))) (signatures l) (signatures r)

      right : (e : ℕ) → bit_at F q p ≡ e → ((s : ℕ) → no_zero_edge F q (edge p 1 ∷ path s r) ≡ no_zero_edge F q (path s r)) → reached F q (node p l r) (signatures r) ≡ reached F q r (signatures r)
      right e h o = keep_cong (λ s. no_zero_edge F q (path s (node p l r))) (λ s. no_zero_edge F q (path s r)) (signatures r) (λ s m. ap (no_zero_edge F q) (path_right F es p l r f s m) ∙ o s)

      go : (bit_at F q p ≡ 0) ⊎ (bit_at F q p ≡ 1) → compared F q l ≡ reached F q l (signatures l) → compared F q r ≡ reached F q r (signatures r)
          → compared F q (node p l r) ≡ reached F q (node p l r) (signatures l ++ signatures r)
      go (inl e) a b =
          let x = keep_cong (λ s. no_zero_edge F q (path s (node p l r))) (λ s. no_zero_edge F q (path s l)) (signatures l) (λ s m. ap (no_zero_edge F q) (path_left p l r s m) ∙ bar_open p 0 (path s l) e) in
          rw (e, compared) (ap₂ ◌++◌ (a ∙ sym x) (b ∙ sym (right 0 e (λ s. bar_open p 1 (path s r) e))) ∙ sym apart)
      go (inr e) a b =
          let x = keep_none (λ s. no_zero_edge F q (path s (node p l r))) (signatures l) (λ s m. ap (no_zero_edge F q) (path_left p l r s m) ∙ bar_set p 0 (path s l) e) in
          rw (e, compared) (b ∙ sym (right 1 e (λ s. bar_set p 1 (path s r) e)) ∙ sym (apart ∙ ap (λ (z : List ℕ). z ++ reached F q (node p l r) (signatures r)) x))

  -- THE SEARCH'S LEAVES: those whose path has no 0 edge where the query has a 1
  pub compared_reached : (t : Tree) → Proper F t → compared F q t ≡ reached F q t (signatures t)
  unfolding compared signatures keep
  compared_reached t (inl e) = rw e refl
  compared_reached t (inr f) = reached_below [] t f

  -- their number does not depend on the order in which the signatures are listed
  pub reached_same : (t : Tree) (k l : List ℕ) → Same k l → length (reached F q t k) ≡ length (reached F q t l)
  reached_same t k l h =
      same_length (reached F q t k) (reached F q t l) (keep_same (λ s. no_zero_edge F q (path s t)) k l h)

  -- and is at most the number listed
  pub reached_few : (t : Tree) (k : List ℕ) → length (reached F q t k) ≤ length k
  reached_few t k = keep_few (λ s. no_zero_edge F q (path s t)) k

  some_compared : (es : List Edge) (t : Tree) → Below F es t → 1 ≤ length (compared F q t)
  unfolding compared
  some_compared es nothing f = absurd f
  some_compared es (leaf s) f = le_refl 1
  some_compared es (node p l r) f = go (bit_cases F q p) (some_compared (edge p 1 ∷ es) r f.4)
    where
      go : (bit_at F q p ≡ 0) ⊎ (bit_at F q p ≡ 1) → 1 ≤ length (compared F q r) → 1 ≤ length (compared F q (node p l r))
      go (inl e) b = rw (e, compared) (omega (arith, length-append (compared F q l) (compared F q r)))
      go (inr e) b = rw (e, compared) b

  -- a tree with a leaf has fewer nodes than leaves
  nodes_below : (es : List Edge) (t : Tree) → Below F es t → suc (nodes_read F q t) ≤ length (signatures t)
  unfolding nodes_read signatures
  nodes_below es nothing f = absurd f
  nodes_below es (leaf s) f = le_refl 1
  nodes_below es (node p l r) f = go (bit_cases F q p) (nodes_below (edge p 0 ∷ es) l f.3) (nodes_below (edge p 1 ∷ es) r f.4)
    where
      go : (bit_at F q p ≡ 0) ⊎ (bit_at F q p ≡ 1) → suc (nodes_read F q l) ≤ length (signatures l) → suc (nodes_read F q r) ≤ length (signatures r)
          → suc (nodes_read F q (node p l r)) ≤ length (signatures l ++ signatures r)
      go (inl e) a b = rw (e, nodes_read) (omega (arith, length-append (signatures l) (signatures r)))
      go (inr e) a b = rw (e, nodes_read) (omega (arith, length-append (signatures l) (signatures r)))

  -- bits read: none for nothing, else at most d - 1
  pub nodes_none : nodes_read F q nothing ≡ 0
  unfolding nodes_read
  nodes_none = refl

  pub nodes_few : (t : Tree) → Proper F t → nodes_read F q t ≤ length (signatures t) - 1
  unfolding nodes_read signatures
  nodes_few t (inl e) = rw e zero-le
  nodes_few t (inr f) = omega (arith, nodes_below [] t f)

  -- at most m nodes for each compare, where no path is longer than m
  share_below : (es : List Edge) (t : Tree) → Below F es t → (m : ℕ) → height t ≤ m → nodes_read F q t ≤ m * length (compared F q t)
  unfolding nodes_read compared
  share_below es nothing f m h = absurd f
  share_below es (leaf s) f m h = zero-le
  share_below es (node p l r) f zero h = absurd (omega arith)
  share_below es (node p l r) f (suc m) h =
      go (bit_cases F q p) (share_below (edge p 0 ∷ es) l f.3 m (omega arith)) (share_below (edge p 1 ∷ es) r f.4 m (omega arith)) (some_compared (edge p 1 ∷ es) r f.4)
    where
      go : (bit_at F q p ≡ 0) ⊎ (bit_at F q p ≡ 1) → nodes_read F q l ≤ m * length (compared F q l) → nodes_read F q r ≤ m * length (compared F q r) → 1 ≤ length (compared F q r)
          → nodes_read F q (node p l r) ≤ suc m * length (compared F q (node p l r))
      go (inl e) a b c =
          let n = length-append (compared F q l) (compared F q r) in
          rw (e, nodes_read, compared) (shared m (nodes_read F q l) (nodes_read F q r) (length (compared F q l)) (length (compared F q r)) (length (compared F q l ++ compared F q r)) n a b c)
      go (inr e) a b c = rw (e, nodes_read, compared) (omega (arith, suc-mul m (length (compared F q r))))

  -- and at most F times the compares
  pub nodes_compares : (t : Tree) → Proper F t → nodes_read F q t ≤ F * length (compared F q t)
  unfolding nodes_read
  nodes_compares t (inl e) = rw e zero-le
  nodes_compares t (inr f) = share_below [] t f F (height_fits F t (inr f))
