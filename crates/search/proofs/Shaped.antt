-- The walk of a shape that the tables spell: it marks the blocks of the leaves that it compares and that cover the query, and it uses
-- up the plain tree's nodes and forks. By induction on the shape; each node hands its budget to one side and on to the other.
-- Assumes nothing.
use Prim.Native.Nat.{ℕ, ◌+◌, ◌-◌, ◌/◌, ◌%◌, ◌^◌, ◌≤◌, ◌<◌}
use native.Mathlib.Omega.{arith}
use mathlib.Core.Path.{◌≡◌, refl, sym, ◌∙◌, ap, subst}
use mathlib.Core.Logic.{◌⊎◌, inl, inr, ⊎_elim}
use mathlib.Core.Bool.{Bool, true, false}
use mathlib.Core.List.Memᴰ
use mathlib.Core.List.{List, [], ◌∷◌, ◌++◌, Memᴰ}
use lib.Dec.{eqb}
use lib.ListN.{length, length-append}
use borrow.Author.Tests.{eq-eqb, ne_eqb, le-ltb}
use Rattle.model.specs.Basics.{pick}
use Rattle.model.specs.Limits.{widest}
use Rattle.model.specs.Signature.{bit_at, coversb}
use Rattle.model.specs.Tree.{goes_left, Edge, edge, compared, nodes_read}
use Rattle.model.specs.Tables.{width_of, next_of, filed_of, left_of, right_of, signature_of}
use Rattle.model.specs.Sound.{Shape, tip, fork, Chain, Holds, Placed}
use Rattle.model.proofs.Bits.{bit_cases}
use Rattle.tables.proofs.Trees.{depth, shape_tree}
use Rattle.search.specs.Budget.{Budget, fork_less}
use Rattle.search.specs.Marks.{is_marked, mark}
use Rattle.search.specs.Search.{may_mark, chain_twin, leaf_twin, read_at, side_at, is_leaf, in_turn, node_twin, walk_twin}
use Rattle.search.proofs.Leaves.{block_leaf, above_leaf}
use Rattle.search.proofs.Steps.{chain_end, chain_mark, leaf_passed, leaf_chain, walk_leaf, walk_node, node_right, node_both}

-- blocks marked in turn
abbrev pub mark_all : List ℕ → List ℕ → List ℕ
mark_all m [] = m
mark_all m (b ∷ bs) = mark_all (mark m b) bs

-- none of them is marked when its turn comes
abbrev pub Unmarked : List ℕ → List ℕ → Type 0
Unmarked m [] = Unit {0}
Unmarked m (b ∷ bs) = (is_marked m b ≡ false) × Unmarked (mark m b) bs

mark_all_append : (m xs ys : List ℕ) → mark_all m (xs ++ ys) ≡ mark_all (mark_all m xs) ys
mark_all_append m [] ys = refl
mark_all_append m (x ∷ xs) ys = mark_all_append (mark m x) xs ys

unmarked_append : (m xs ys : List ℕ) → Unmarked m (xs ++ ys) → Unmarked m xs × Unmarked (mark_all m xs) ys
unmarked_append m [] ys h = (tt, h)
unmarked_append m (x ∷ xs) ys h = let r = unmarked_append (mark m x) xs ys h.1 in ((h.0, r.0), r.1)

-- is the shape a leaf? And is the right one of two shapes a leaf where the left one is none?
abbrev is_tip : Shape → Bool
is_tip (tip h cs) = true
is_tip (fork i p l k) = false

abbrev tip_last : Shape → Shape → Bool
tip_last l k = pick (is_tip l) false (is_tip k)

-- blocks of a left and a right side, in the order of the visits
abbrev ordered : Bool → List ℕ → List ℕ → List ℕ
ordered t xs ys = pick t (ys ++ xs) (xs ++ ys)

module _ (sigs : List ℕ) (F q : ℕ) where
  -- the blocks that a search for q marks, in order
  abbrev pub hits : Shape → List ℕ
  hits (tip h cs) = pick (coversb F (signature_of sigs h) q) (h ∷ cs) []
  hits (fork i p l k) = pick (eqb (bit_at F q p) 1) (hits k) (ordered (tip_last l k) (hits l) (hits k))

  -- the nodes read, the leaves compared, and the nodes at which the search goes both ways
  abbrev pub reads : Shape → ℕ
  reads t = nodes_read F q (shape_tree sigs t)

  abbrev pub compares : Shape → ℕ
  compares t = length (compared F q (shape_tree sigs t))

  abbrev pub forks : Shape → ℕ
  forks (tip h cs) = 0
  forks (fork i p l k) = pick (eqb (bit_at F q p) 1) (forks k) (1 + (forks l + forks k))

  module _ (i p : ℕ) (l k : Shape) where
    pub reads_set : bit_at F q p ≡ 1 → reads (fork i p l k) ≡ 1 + reads k
    unfolding nodes_read
    reads_set e = let z : goes_left F q p ≡ false = ne_eqb (bit_at F q p) 0 (omega arith) in rw (z, nodes_read)

    pub reads_clear : bit_at F q p ≡ 0 → reads (fork i p l k) ≡ 1 + (reads l + reads k)
    unfolding nodes_read
    reads_clear e = let z : goes_left F q p ≡ true = eq-eqb (bit_at F q p) 0 e in rw (z, nodes_read)

    compares_set : bit_at F q p ≡ 1 → compares (fork i p l k) ≡ compares k
    unfolding compared
    compares_set e = let z : goes_left F q p ≡ false = ne_eqb (bit_at F q p) 0 (omega arith) in rw (z, compared)

    compares_clear : bit_at F q p ≡ 0 → compares (fork i p l k) ≡ compares l + compares k
    unfolding compared
    compares_clear e = let z : goes_left F q p ≡ true = eq-eqb (bit_at F q p) 0 e in rw (z, compared, length-append)

    both_ways : bit_at F q p ≡ 0 → eqb (bit_at F q p) 1 ≡ false
    both_ways e = ne_eqb (bit_at F q p) 1 (omega arith)

    pub forks_set : bit_at F q p ≡ 1 → forks (fork i p l k) ≡ forks k
    forks_set e = rw (eq-eqb (bit_at F q p) 1 e)

    pub forks_clear : bit_at F q p ≡ 0 → forks (fork i p l k) ≡ 1 + (forks l + forks k)
    forks_clear e = rw (both_ways e)

    pub hits_set : bit_at F q p ≡ 1 → hits (fork i p l k) ≡ hits k
    hits_set e = rw (eq-eqb (bit_at F q p) 1 e)

    hits_clear : bit_at F q p ≡ 0 → hits (fork i p l k) ≡ ordered (tip_last l k) (hits l) (hits k)
    hits_clear e = rw (both_ways e)

    -- whatever is so of both orders is so of the hits
    pub hits_both : (P : List ℕ → Type 0) → bit_at F q p ≡ 0 → P (hits l ++ hits k) → P (hits k ++ hits l) → P (hits (fork i p l k))
    hits_both P e a b = subst P (sym (hits_clear e)) (go (tip_last l k))
      where
        go : (t : Bool) → P (ordered t (hits l) (hits k))
        go true = b
        go false = a

    -- a hit is one of a side
    pub hits_side : bit_at F q p ≡ 0 → (b : ℕ) → Memᴰ b (hits (fork i p l k)) → Memᴰ b (hits l) ⊎ Memᴰ b (hits k)
    hits_side e b = hits_both (λ (xs : List ℕ). Memᴰ b xs → Memᴰ b (hits l) ⊎ Memᴰ b (hits k)) e
        (λ n. Memᴰ.append_cases (hits l) n)
        (λ n. ⊎_elim (λ x. inr x) (λ x. inl x) (Memᴰ.append_cases (hits k) n))

  -- a search compares one leaf more than it goes both ways
  pub compares_forks : (t : Shape) → compares t ≡ 1 + forks t
  unfolding compared
  compares_forks (tip h cs) = refl
  compares_forks (fork i p l k) = go (bit_cases F q p) (compares_forks l) (compares_forks k)
    where
      go : (bit_at F q p ≡ 0) ⊎ (bit_at F q p ≡ 1) → compares l ≡ 1 + forks l → compares k ≡ 1 + forks k → compares (fork i p l k) ≡ 1 + forks (fork i p l k)
      go (inl e) a b = rw (compares_clear i p l k e, forks_clear i p l k e, a, b) (omega arith)
      go (inr e) a b = rw (compares_set i p l k e, forks_set i p l k e) b

may_mark_is : (sigs links : List ℕ) (q b : ℕ) (m : List ℕ) → 1 ≤ b → b ≤ length sigs → filed_of links b ≡ 1 → coversb (width_of links) (signature_of sigs b) q ≡ true
    → is_marked m b ≡ false → may_mark sigs links q b m ≡ true
unfolding may_mark
may_mark_is sigs links q b m low high f e z =
    let n : b ≡ 0 → ⊥ = omega arith in
    let d : filed_of links b ≡ 0 → ⊥ = omega arith in
    simp (ne_eqb b 0 n, le-ltb (length sigs) b high, ne_eqb _ _ d, z) e

-- the side of a query at a position of the width is its bit there
side_bit : (F q p : ℕ) → 1 ≤ p → p ≤ F → F ≤ widest → side_at F q p ≡ bit_at F q p
unfolding side_at
side_bit F q p low high wide = let e : read_at F p ≡ F - p = omega arith in ap (λ (k : ℕ). q / 2 ^ k % 2) e

-- a reference that a shape stands at is a leaf where the shape is one
leaf_tip : (B : ℕ) (L : List ℕ) (r : ℕ) (t : Shape) → Holds B L r t → is_leaf B r ≡ is_tip t
leaf_tip B L r (tip h cs) o = rw o.0 (block_leaf B h o.1 o.2)
leaf_tip B L r (fork i p l k) o =
    let e = o.0 in
    let low = o.1 in
    above_leaf B r (omega arith)

module _ (sigs links : List ℕ) (q : ℕ) where
  abbrev Left : ℕ → ℕ → ℕ → Budget
  Left n f k = record { nodes = n; forks = f; blocks = k }

  -- the block is filed and covers the query
  abbrev Hit : ℕ → Type 0
  Hit b = (filed_of links b ≡ 1) × (coversb (width_of links) (signature_of sigs b) q ≡ true)

  -- the first block of a chain
  one_marked : (cs : List ℕ) (h n f k : ℕ) (m : List ℕ) → 1 ≤ h → h ≤ length sigs → Hit h → is_marked m h ≡ false
      → chain_twin sigs links q n f (length (h ∷ cs) + k) h m ≡ chain_twin sigs links q n f (length (h ∷ cs) + k - 1) (next_of links h) (mark m h)
  one_marked cs h n f k m low high hit z =
      let ne : h ≡ 0 → ⊥ = omega arith in
      chain_mark sigs links q n f h m (length (h ∷ cs) + k) ne (omega arith) (may_mark_is sigs links q h m low high hit.0 hit.1 z)

  chain_marks : (cs : List ℕ) (h n f k : ℕ) (m : List ℕ) → 1 ≤ h → h ≤ length sigs → Chain (length sigs) links h cs → ((b : ℕ) → Memᴰ b (h ∷ cs) → Hit b)
      → Unmarked m (h ∷ cs) → chain_twin sigs links q n f (length (h ∷ cs) + k) h m ≡ (Left n f k, mark_all m (h ∷ cs))
  chain_marks [] h n f k m low high ch hit u =
      let d : length (h ∷ []) + k - 1 ≡ k = omega arith in
      one_marked [] h n f k m low high (hit h (Memᴰ.head refl)) u.0 ∙ rw d (chain_end sigs links q n f (next_of links h) (mark m h) k ch)
  chain_marks (x ∷ xs) h n f k m low high ch hit u =
      let d : length (h ∷ x ∷ xs) + k - 1 ≡ length (x ∷ xs) + k = omega arith in
      one_marked (x ∷ xs) h n f k m low high (hit h (Memᴰ.head refl)) u.0
      ∙ rw (d, ch.0) (chain_marks xs x n f k (mark m h) ch.1 ch.2 ch.3 (λ b y. hit b (Memᴰ.tail y)) u.1)

  -- a leaf, by whether it covers the query
  leaf_marks : (cs : List ℕ) (h n f k : ℕ) (m : List ℕ) → 1 ≤ h → h ≤ length sigs → Chain (length sigs) links h cs
      → ((b : ℕ) → Memᴰ b (h ∷ cs) → (filed_of links b ≡ 1) × (signature_of sigs b ≡ signature_of sigs h)) → (t : Bool) → coversb (width_of links) (signature_of sigs h) q ≡ t
      → Unmarked m (pick t (h ∷ cs) [])
      → leaf_twin sigs links q h (Left n f (length (pick t (h ∷ cs) []) + k)) m ≡ (Left n f k, mark_all m (pick t (h ∷ cs) []))
  leaf_marks cs h n f k m low high ch same true e u =
      let ne : h ≡ 0 → ⊥ = omega arith in
      leaf_chain sigs links q h (Left n f (length (h ∷ cs) + k)) m ne e
      ∙ chain_marks cs h n f k m low high ch (λ b x. let s = same b x in (s.0, ap (λ (y : ℕ). coversb (width_of links) y q) s.1 ∙ e)) u
  leaf_marks cs h n f k m low high ch same false e u =
      let ne : h ≡ 0 → ⊥ = omega arith in
      let z : 0 + k ≡ k = omega arith in
      leaf_passed sigs links q h (Left n f (0 + k)) m ne e ∙ rw z

  abbrev F : ℕ
  F = width_of links

  -- a shape with this left after it
  abbrev Marks : Shape → ℕ → ℕ → ℕ → List ℕ → ℕ → ℕ → Type 0
  Marks t n f k m u r = walk_twin u sigs links q r (Left (reads sigs F q t + n) (forks sigs F q t + f) (length (hits sigs F q t) + k)) m ≡ (Left n f k, mark_all m (hits sigs F q t))

  -- one shape after the other
  turn_marks : (a b : Shape) (x y u n f k : ℕ) (m : List ℕ) → Marks a (reads sigs F q b + n) (forks sigs F q b + f) (length (hits sigs F q b) + k) m u x
      → Marks b n f k (mark_all m (hits sigs F q a)) u y
      → in_turn (walk_twin u sigs links q) x y (Left (reads sigs F q a + (reads sigs F q b + n)) (forks sigs F q a + (forks sigs F q b + f)) (length (hits sigs F q a) + (length (hits sigs F q b) + k))) m
      ≡ (Left n f k, mark_all m (hits sigs F q a ++ hits sigs F q b))
  turn_marks a b x y u n f k m ea eb =
      rw (ea, mark_all_append m (hits sigs F q a) (hits sigs F q b)) eb

  module _ (i p : ℕ) (l r : Shape) (u x n f k : ℕ) (m : List ℕ) (o : Holds (length sigs) links x (fork i p l r)) (wide : F ≤ widest)
      (first : 1 ≤ p) (last : p ≤ width_of links) (deep : 1 ≤ u) where
    abbrev Y : ℕ
    Y = right_of (length sigs) links i

    abbrev X : ℕ
    X = left_of (length sigs) links i

    -- the node that the fork stands at
    at_fork : (v : Budget) → walk_twin u sigs links q x v m ≡ node_twin (walk_twin (u - 1) sigs links q) F (length sigs) q p X Y v m
    at_fork v =
        let at = o.0 in
        let low = o.1 in
        let high = o.2 in
        let d : x - length sigs ≡ i = omega arith in
        let to : x - length sigs < length sigs = omega arith in
        let nu : u ≡ 0 → ⊥ = omega arith in
        walk_node sigs links q x v m (omega arith) u nu to ∙ rw (d, o.3)

    fork_set : bit_at F q p ≡ 1 → Marks r n f k m (u - 1) Y → Marks (fork i p l r) n f k m u x
    fork_set e ih =
        let z : 1 + reads sigs F q r + n - 1 ≡ reads sigs F q r + n = omega arith in
        let some : 1 + reads sigs F q r + n ≡ 0 → ⊥ = omega arith in
        rw (reads_set sigs F q i p l r e, forks_set sigs F q i p l r e, hits_set sigs F q i p l r e)
        (at_fork (Left (1 + reads sigs F q r + n) (forks sigs F q r + f) (length (hits sigs F q r) + k))
        ∙ node_right (walk_twin (u - 1) sigs links q) F (length sigs) q p X Y _ m some (ap (λ (v : ℕ). eqb v 1) (side_bit F q p first last wide) ∙ eq-eqb _ _ e)
        ∙ rw z ih)

    -- what is left at the fork, and below it
    abbrev Above : Budget
    Above = Left (reads sigs F q (fork i p l r) + n) (forks sigs F q (fork i p l r) + f) (length (hits sigs F q (fork i p l r)) + k)

    ordered_long : (t : Bool) → length (ordered t (hits sigs F q l) (hits sigs F q r)) ≡ length (hits sigs F q l) + length (hits sigs F q r)
    ordered_long true = length-append (hits sigs F q r) (hits sigs F q l) ∙ omega arith
    ordered_long false = length-append (hits sigs F q l) (hits sigs F q r)

    below_is : bit_at F q p ≡ 0 → (a b : Shape) → reads sigs F q a + reads sigs F q b ≡ reads sigs F q l + reads sigs F q r → forks sigs F q a + forks sigs F q b ≡ forks sigs F q l + forks sigs F q r
        → length (hits sigs F q a) + length (hits sigs F q b) ≡ length (hits sigs F q l) + length (hits sigs F q r)
        → fork_less Above ≡ Left (reads sigs F q a + (reads sigs F q b + n)) (forks sigs F q a + (forks sigs F q b + f)) (length (hits sigs F q a) + (length (hits sigs F q b) + k))
    below_is e a b er ef eh =
        let zn : reads sigs F q (fork i p l r) + n - 1 ≡ reads sigs F q a + (reads sigs F q b + n) = omega (arith, reads_clear sigs F q i p l r e) in
        let zf : forks sigs F q (fork i p l r) + f - 1 ≡ forks sigs F q a + (forks sigs F q b + f) = omega (arith, forks_clear sigs F q i p l r e) in
        let zk : length (hits sigs F q (fork i p l r)) + k ≡ length (hits sigs F q a) + (length (hits sigs F q b) + k) = omega (arith, ap length (hits_clear sigs F q i p l r e), ordered_long (tip_last l r)) in
        rw (zn, zf, zk)

    fork_clear : bit_at F q p ≡ 0
        → ((n f k : ℕ) (m : List ℕ) → Unmarked m (hits sigs F q l) → Marks l n f k m (u - 1) X)
        → ((n f k : ℕ) (m : List ℕ) → Unmarked m (hits sigs F q r) → Marks r n f k m (u - 1) Y)
        → Unmarked m (hits sigs F q (fork i p l r)) → Marks (fork i p l r) n f k m u x
    fork_clear e ihl ihr un =
        at_fork Above
        ∙ node_both (walk_twin (u - 1) sigs links q) F (length sigs) q p X Y Above m some (ap (λ (v : ℕ). eqb v 1) (side_bit F q p first last wide) ∙ both_ways sigs F q i p l r e)
        ∙ rw (leaf_tip (length sigs) links X l o.4, leaf_tip (length sigs) links Y r o.5) (go (tip_last l r) (subst (Unmarked m) (hits_clear sigs F q i p l r e) un))
        ∙ ap (λ (bs : List ℕ). (Left n f k, mark_all m bs)) (sym (hits_clear sigs F q i p l r e))
      where
        some : Above.nodes ≡ 0 → ⊥
        some = omega (arith, reads_clear sigs F q i p l r e)

        go : (t : Bool) → Unmarked m (ordered t (hits sigs F q l) (hits sigs F q r))
            → pick t (in_turn (walk_twin (u - 1) sigs links q) Y X (fork_less Above) m) (in_turn (walk_twin (u - 1) sigs links q) X Y (fork_less Above) m) ≡ (Left n f k, mark_all m (ordered t (hits sigs F q l) (hits sigs F q r)))
        go true v =
            let w = unmarked_append m (hits sigs F q r) (hits sigs F q l) v in
            rw (below_is e r l (omega arith) (omega arith) (omega arith)) (turn_marks r l Y X (u - 1) n f k m (ihr _ _ _ m w.0) (ihl n f k _ w.1))
        go false v =
            let w = unmarked_append m (hits sigs F q l) (hits sigs F q r) v in
            rw (below_is e l r refl refl refl) (turn_marks l r X Y (u - 1) n f k m (ihl _ _ _ m w.0) (ihr n f k _ w.1))

  -- THE WALK OF A SHAPE, with as many positions untested as it is deep
  pub walk_marks : F ≤ widest → (path : List Edge) (t : Shape) (u r n f k : ℕ) (m : List ℕ) → Holds (length sigs) links r t → Placed F sigs links path t → depth t ≤ u
      → Unmarked m (hits sigs F q t) → Marks t n f k m u r
  unfolding nodes_read
  walk_marks wide path (tip h cs) u r n f k m o pl d un =
      let zn : 0 + n ≡ n = omega arith in
      let zf : 0 + f ≡ f = omega arith in
      let low = o.1 in
      let high = o.2 in
      rw (zn, zf, o.0)
      (walk_leaf sigs links q h _ m u high
      ∙ leaf_marks cs h n f k m low high o.3 pl.1 (coversb F (signature_of sigs h) q) refl un)
  walk_marks wide path (fork i p l y) u r n f k m o pl d un = go (bit_cases F q p)
      (λ n' f' k' m' v. walk_marks wide (edge p 0 ∷ path) l (u - 1) (left_of (length sigs) links i) n' f' k' m' o.4 pl.3 (omega arith) v)
      (λ n' f' k' m' v. walk_marks wide (edge p 1 ∷ path) y (u - 1) (right_of (length sigs) links i) n' f' k' m' o.5 pl.4 (omega arith) v)
    where
      go : (bit_at F q p ≡ 0) ⊎ (bit_at F q p ≡ 1)
          → ((n f k : ℕ) (m : List ℕ) → Unmarked m (hits sigs F q l) → Marks l n f k m (u - 1) (left_of (length sigs) links i))
          → ((n f k : ℕ) (m : List ℕ) → Unmarked m (hits sigs F q y) → Marks y n f k m (u - 1) (right_of (length sigs) links i))
          → Marks (fork i p l y) n f k m u r
      go (inr e) ihl ihr = fork_set i p l y u r n f k m o wide pl.0 pl.1 (omega arith) e (ihr n f k m (subst (Unmarked m) (hits_set sigs F q i p l y e) un))
      go (inl e) ihl ihr = fork_clear i p l y u r n f k m o wide pl.0 pl.1 (omega arith) e ihl ihr un
