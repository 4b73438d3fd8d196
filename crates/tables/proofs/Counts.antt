-- A tree has one node less than leaves, so a free node is left while a block is unfiled; the count of filed blocks; the free chain.
-- Assumes nothing.
use Prim.Native.Nat.{ℕ, zero, suc, ◌+◌, ◌-◌, ◌≤◌, ◌<◌}
use native.Mathlib.Decide.{ℕ_discrete}
use native.Mathlib.Omega.{arith}
use mathlib.Core.Path.{◌≡◌, refl, sym, ◌∙◌, ap, subst}
use mathlib.Core.Logic.{◌⊎◌, inl, inr, ◌≢◌}
use mathlib.Core.List.{List, [], ◌∷◌, ◌++◌, Memᴰ}
use lib.ListN.{length, length-append}
use Rattle.model.specs.Tree.{Edge, edge}
use Rattle.model.specs.Tables.{word, filed_at, position_at, left_at, right_at}
use Rattle.model.specs.Sound.{Shape, tip, fork, Holds, nodes, blocks, Placed, FreeChain, filed_up_to}
use Rattle.model.proofs.Pigeon.{Distinct, distinct_fits, distinct_append, down_from, down_from_length, down_from_range, down_from_has, down_from_distinct}
use Rattle.tables.proofs.Shapes.{blocks_range, blocks_placed, blocks_apart}

-- the head blocks of the leaves
abbrev pub heads : Shape → List ℕ
heads (tip h cs) = h ∷ []
heads (fork i p l k) = heads l ++ heads k

pub heads_count : (t : Shape) → length (heads t) ≡ suc (length (nodes t))
heads_count (tip h cs) = refl
heads_count (fork i p l k) = omega (arith, length-append (heads l) (heads k), length-append (nodes l) (nodes k), heads_count l, heads_count k)

pub heads_blocks : (t : Shape) (c : ℕ) → Memᴰ c (heads t) → Memᴰ c (blocks t)
heads_blocks (tip h cs) c m = go (mathlib.Core.List.Memᴰ.cases_cons m)
  where
    go : (c ≡ h) ⊎ Memᴰ c [] → Memᴰ c (h ∷ cs)
    go (inl e) = mathlib.Core.List.Memᴰ.head e
    go (inr n) = absurd (mathlib.Core.List.Memᴰ.not-nil n)
heads_blocks (fork i p l k) c m = go (mathlib.Core.List.Memᴰ.append_cases (heads l) m) (heads_blocks l c) (heads_blocks k c)
  where
    go : Memᴰ c (heads l) ⊎ Memᴰ c (heads k) → (Memᴰ c (heads l) → Memᴰ c (blocks l)) → (Memᴰ c (heads k) → Memᴰ c (blocks k)) → Memᴰ c (blocks l ++ blocks k)
    go (inl n) f g = mathlib.Core.List.Memᴰ.append_left (blocks k) (f n)
    go (inr n) f g = mathlib.Core.List.Memᴰ.append_right (blocks l) (g n)

module _ (B F : ℕ) (sigs L : List ℕ) where
  pub heads_distinct : (path : List Edge) (t : Shape) → Placed F sigs L path t → Distinct (heads t)
  heads_distinct path (tip h cs) q = (mathlib.Core.List.Memᴰ.not-nil, tt)
  heads_distinct path (fork i p l k) q =
      distinct_append (heads l) (heads k) (heads_distinct (edge p 0 ∷ path) l q.3) (heads_distinct (edge p 1 ∷ path) k q.4)
      (λ c m n. blocks_apart B L F sigs path i p l k q c (heads_blocks l c m) (heads_blocks k c n))

  -- while some block is unfiled, not every node stands in the tree
  pub node_left : (t : Shape) (r : ℕ) → Holds B L r t → Placed F sigs L [] t → (b : ℕ) → 1 ≤ b → b ≤ B → word L (filed_at b) ≡ 0
      → ((i : ℕ) → 1 ≤ i → i < B → Memᴰ i (nodes t)) → ⊥
  node_left t r q pl b h h' z all =
      let out : Memᴰ b (heads t) → ⊥ = λ m. let f = (blocks_placed B L F sigs [] t pl b (heads_blocks t b m)).0 in omega arith in
      let many = distinct_fits (down_from (B - 1)) (nodes t) (down_from_distinct (B - 1)) (λ i m. let g = down_from_range (B - 1) i m in all i (omega arith) (omega arith)) in
      let few = distinct_fits (b ∷ heads t) (down_from B) (out, heads_distinct [] t pl) (λ c m. in_b c (mathlib.Core.List.Memᴰ.cases_cons m)) in
      omega (arith, heads_count t, down_from_length B, down_from_length (B - 1))
    where
      in_b : (c : ℕ) → (c ≡ b) ⊎ Memᴰ c (heads t) → Memᴰ c (down_from B)
      in_b c (inl e) = down_from_has B c (omega arith) (omega arith)
      in_b c (inr m) = let g = blocks_range B L t r q c (heads_blocks t c m) in down_from_has B c g.0 g.1

-- the count of filed blocks, where no filed word changes
pub filed_same : (L L' : List ℕ) (n : ℕ) → ((c : ℕ) → 1 ≤ c → c ≤ n → word L' (filed_at c) ≡ word L (filed_at c)) → filed_up_to L' n ≡ filed_up_to L n
filed_same L L' zero o = refl
filed_same L L' (suc n) o = omega (arith, o (suc n) (omega arith) (omega arith), filed_same L L' n (λ c x y. o c x (omega arith)))

-- and where one block's does
module _ (L L' : List ℕ) (b : ℕ) where
  pub filed_changed : (n : ℕ) → 1 ≤ b → b ≤ n → ((c : ℕ) → c ≢ b → 1 ≤ c → c ≤ n → word L' (filed_at c) ≡ word L (filed_at c))
      → filed_up_to L' n + word L (filed_at b) ≡ filed_up_to L n + word L' (filed_at b)
  filed_changed zero h h' o = absurd (omega arith)
  filed_changed (suc n) h h' o = go (ℕ_discrete b (suc n)) (λ k. filed_changed n h k (λ c x y z. o c x y (omega arith)))
    where
      go : Dec (b ≡ suc n) → (b ≤ n → filed_up_to L' n + word L (filed_at b) ≡ filed_up_to L n + word L' (filed_at b)) → filed_up_to L' (suc n) + word L (filed_at b) ≡ filed_up_to L (suc n) + word L' (filed_at b)
      go (yes e) ih =
          omega (arith, ap (λ (x : ℕ). word L (filed_at x)) e, ap (λ (x : ℕ). word L' (filed_at x)) e, filed_same L L' n (λ c x y. o c (omega arith) x (omega arith)))
      go (no d) ih = omega (arith, o (suc n) (λ e. d (sym e)) (omega arith) (omega arith), ih (omega arith))

-- where filed words are 0 or 1, at most n of n blocks are filed
pub filed_few : (L : List ℕ) (n : ℕ) → ((b : ℕ) → 1 ≤ b → b ≤ n → word L (filed_at b) ≤ 1) → filed_up_to L n ≤ n
filed_few L zero h = omega arith
filed_few L (suc n) h = omega (arith, h (suc n) (omega arith) (omega arith), filed_few L n (λ b x y. h b x (omega arith)))

-- a filed block is counted
pub filed_one : (L : List ℕ) (b n : ℕ) → 1 ≤ b → b ≤ n → word L (filed_at b) ≤ filed_up_to L n
filed_one L b zero h h' = absurd (omega arith)
filed_one L b (suc n) h h' = go (ℕ_discrete b (suc n)) (filed_one L b n h)
  where
    go : Dec (b ≡ suc n) → (b ≤ n → word L (filed_at b) ≤ filed_up_to L n) → word L (filed_at b) ≤ filed_up_to L (suc n)
    go (yes e) ih = omega (arith, ap (λ (x : ℕ). word L (filed_at x)) e)
    go (no d) ih = omega (arith, ih (omega arith))

-- the free chain
pub free_same : (B : ℕ) (L L' : List ℕ) (r r' : ℕ) (is : List ℕ) → r' ≡ r
    → ((i : ℕ) → Memᴰ i is → (word L' (position_at B i) ≡ word L (position_at B i)) × (word L' (left_at B i) ≡ word L (left_at B i)) × (word L' (right_at B i) ≡ word L (right_at B i)))
    → FreeChain B L r is → FreeChain B L' r' is
free_same B L L' r r' [] e o q = e ∙ q
free_same B L L' r r' (i ∷ is) e o q =
    let w = o i (mathlib.Core.List.Memᴰ.head refl) in
    (e ∙ q.0, q.1, q.2, w.0 ∙ q.3, w.2 ∙ q.4, free_same B L L' (word L (left_at B i)) (word L' (left_at B i)) is w.1 (λ j m. o j (mathlib.Core.List.Memᴰ.tail m)) q.5)

module _ (B : ℕ) (L : List ℕ) where
  pub free_range : (r : ℕ) (is : List ℕ) → FreeChain B L r is → (i : ℕ) → Memᴰ i is → (1 ≤ i) × (i < B)
  free_range r [] q i m = absurd (mathlib.Core.List.Memᴰ.not-nil m)
  free_range r (j ∷ is) q i m = go (mathlib.Core.List.Memᴰ.cases_cons m) (free_range (word L (left_at B j)) is q.5 i)
    where
      go : (i ≡ j) ⊎ Memᴰ i is → (Memᴰ i is → (1 ≤ i) × (i < B)) → (1 ≤ i) × (i < B)
      go (inl e) ih = let a = q.1 in let b = q.2 in omega arith
      go (inr n) ih = ih n

  pub free_one : (r : ℕ) (is js : List ℕ) → FreeChain B L r is → FreeChain B L r js → is ≡ js
  free_one r [] [] q q' = refl
  free_one r [] (j ∷ js) q q' = let a = q'.0 in let b = q'.1 in absurd (omega arith)
  free_one r (i ∷ is) [] q q' = let a = q.0 in let b = q.1 in absurd (omega arith)
  free_one r (i ∷ is) (j ∷ js) q q' =
      let e : i ≡ j = sym q.0 ∙ q'.0 in
      let ih = free_one (word L (left_at B i)) is js q.5 (subst (λ (x : ℕ). FreeChain B L (word L (left_at B x)) js) (sym e) q'.5) in
      cc

  free_inside : (r : ℕ) (is : List ℕ) → FreeChain B L r is → (i : ℕ) → Memᴰ i is → (js : List ℕ) × FreeChain B L i js × (length js ≤ length is)
  free_inside r [] q i m = absurd (mathlib.Core.List.Memᴰ.not-nil m)
  free_inside r (j ∷ is) q i m = go (mathlib.Core.List.Memᴰ.cases_cons m) (free_inside (word L (left_at B j)) is q.5 i)
    where
      go : (i ≡ j) ⊎ Memᴰ i is → (Memᴰ i is → (js : List ℕ) × FreeChain B L i js × (length js ≤ length is)) → (js : List ℕ) × FreeChain B L i js × (length js ≤ length (j ∷ is))
      go (inl e) ih = (j ∷ is, (e, q.1, q.2, q.3, q.4, q.5), omega arith)
      go (inr n) ih = let x = ih n in (x.0, x.1, omega arith)

  -- the first free node does not come again
  pub free_no_return : (r i : ℕ) (is : List ℕ) → FreeChain B L r (i ∷ is) → Memᴰ i is → ⊥
  free_no_return r i is q m =
      let x = free_inside _ is q.5 i m in
      omega (arith, ap length (free_one i (i ∷ is) x.0 (refl, q.1, q.2, q.3, q.4, q.5) x.1))

  pub free_distinct : (r : ℕ) (is : List ℕ) → FreeChain B L r is → Distinct is
  free_distinct r [] q = tt
  free_distinct r (i ∷ is) q = (free_no_return r i is q, free_distinct (word L (left_at B i)) is q.5)
