-- What a sound tree's shape gives: frames, one shape to a reference, no node and no block twice.
-- Assumes nothing.
use Prim.Native.Nat.{ℕ, suc, ◌+◌, ◌≤◌, ◌<◌}
use native.Mathlib.Nat.{le_refl}
use native.Mathlib.Omega.{arith}
use mathlib.Core.Path.{◌≡◌, refl, sym, ◌∙◌, ap, subst}
use mathlib.Core.Logic.{◌⊎◌, inl, inr}
use mathlib.Core.List.Memᴰ
use mathlib.Core.List.{List, [], ◌∷◌, ◌++◌, Memᴰ}
use lib.ListN.{length}
use Rattle.model.specs.Signature.{bit_at}
use Rattle.model.specs.Tree.{Edge, edge, Agrees}
use Rattle.model.specs.Tables.{word, next_at, filed_at, position_at, left_at, right_at, signature_of}
use Rattle.model.specs.Sound.{Shape, tip, fork, Chain, Holds, nodes, blocks, Placed}

-- the words of a shape are the same in both lists: so is the shape
module _ (B : ℕ) (L L' : List ℕ) where
  pub chain_same : (h : ℕ) (cs : List ℕ) → ((c : ℕ) → Memᴰ c (h ∷ cs) → word L' (next_at c) ≡ word L (next_at c)) → Chain B L h cs → Chain B L' h cs
  chain_same h [] n k = n h (Memᴰ.head refl) ∙ k
  chain_same h (c ∷ cs) n k = (n h (Memᴰ.head refl) ∙ k.0, k.1, k.2, chain_same c cs (λ d m. n d (Memᴰ.tail m)) k.3)

  -- a chain with another block at its start
  pub chain_move : (h b : ℕ) (cs : List ℕ) → word L' (next_at b) ≡ word L (next_at h) → ((c : ℕ) → Memᴰ c cs → word L' (next_at c) ≡ word L (next_at c)) → Chain B L h cs → Chain B L' b cs
  chain_move h b [] e n q = e ∙ q
  chain_move h b (c ∷ cs) e n q = (e ∙ q.0, q.1, q.2, chain_same c cs n q.3)

  pub holds_same : (t : Shape) (r r' : ℕ) → r' ≡ r
      → ((c : ℕ) → Memᴰ c (blocks t) → word L' (next_at c) ≡ word L (next_at c))
      → ((i : ℕ) → Memᴰ i (nodes t) → (word L' (position_at B i) ≡ word L (position_at B i)) × (word L' (left_at B i) ≡ word L (left_at B i)) × (word L' (right_at B i) ≡ word L (right_at B i)))
      → Holds B L r t → Holds B L' r' t
  holds_same (tip h cs) r r' e n o q = (e ∙ q.0, q.1, q.2, chain_same h cs n q.3)
  holds_same (fork i p l k) r r' e n o q =
      let w = o i (Memᴰ.head refl) in (
        e ∙ q.0,
        q.1,
        q.2,
        w.0 ∙ q.3,
        holds_same l _ _ w.1 (λ c m. n c (Memᴰ.append_left (blocks k) m)) (λ j m. o j (Memᴰ.tail (Memᴰ.append_left (nodes k) m))) q.4,
        holds_same k _ _ w.2 (λ c m. n c (Memᴰ.append_right (blocks l) m)) (λ j m. o j (Memᴰ.tail (Memᴰ.append_right (nodes l) m))) q.5,
      )

pub placed_same : (F : ℕ) (sigs sigs' L L' : List ℕ) (path : List Edge) (t : Shape)
    → ((c : ℕ) → Memᴰ c (blocks t) → (word L' (filed_at c) ≡ word L (filed_at c)) × (signature_of sigs' c ≡ signature_of sigs c))
    → Placed F sigs L path t → Placed F sigs' L' path t
placed_same F sigs sigs' L L' path (tip h cs) o q =
    let eh = (o h (Memᴰ.head refl)).1 in
    (subst (λ (x : ℕ). Agrees F x path) (sym eh) q.0, λ c m. ((o c m).0 ∙ (q.1 c m).0, (o c m).1 ∙ (q.1 c m).1 ∙ sym eh))
placed_same F sigs sigs' L L' path (fork i p l k) o q = (
  q.0,
  q.1,
  q.2,
  placed_same F sigs sigs' L L' (edge p 0 ∷ path) l (λ c m. o c (Memᴰ.append_left (blocks k) m)) q.3,
  placed_same F sigs sigs' L L' (edge p 1 ∷ path) k (λ c m. o c (Memᴰ.append_right (blocks l) m)) q.4,
)

module _ (B : ℕ) (L : List ℕ) where
  pub chain_range : (h : ℕ) (cs : List ℕ) → Chain B L h cs → (c : ℕ) → Memᴰ c cs → (1 ≤ c) × (c ≤ B)
  chain_range h [] q c m = absurd (Memᴰ.not-nil m)
  chain_range h (d ∷ cs) q c m = go (Memᴰ.cases_cons m) (chain_range d cs q.3 c)
    where
      go : (c ≡ d) ⊎ Memᴰ c cs → (Memᴰ c cs → (1 ≤ c) × (c ≤ B)) → (1 ≤ c) × (c ≤ B)
      go (inl e) ih = let g = q.1 in let g' = q.2 in omega arith
      go (inr n) ih = ih n

  pub blocks_range : (t : Shape) (r : ℕ) → Holds B L r t → (c : ℕ) → Memᴰ c (blocks t) → (1 ≤ c) × (c ≤ B)
  blocks_range (tip h cs) r q c m = go (Memᴰ.cases_cons m)
    where
      go : (c ≡ h) ⊎ Memᴰ c cs → (1 ≤ c) × (c ≤ B)
      go (inl e) = let g = q.1 in let g' = q.2 in omega arith
      go (inr n) = chain_range h cs q.3 c n
  blocks_range (fork i p l k) r q c m = go (Memᴰ.append_cases (blocks l) m) (blocks_range l _ q.4 c) (blocks_range k _ q.5 c)
    where
      go : Memᴰ c (blocks l) ⊎ Memᴰ c (blocks k) → (Memᴰ c (blocks l) → (1 ≤ c) × (c ≤ B)) → (Memᴰ c (blocks k) → (1 ≤ c) × (c ≤ B)) → (1 ≤ c) × (c ≤ B)
      go (inl n) f g = f n
      go (inr n) f g = g n

  pub nodes_range : (t : Shape) (r : ℕ) → Holds B L r t → (j : ℕ) → Memᴰ j (nodes t) → (1 ≤ j) × (j < B)
  nodes_range (tip h cs) r q j m = absurd (Memᴰ.not-nil m)
  nodes_range (fork i p l k) r q j m = go (Memᴰ.cases_cons m) (nodes_range l _ q.4 j) (nodes_range k _ q.5 j)
    where
      go₂ : Memᴰ j (nodes l) ⊎ Memᴰ j (nodes k) → (Memᴰ j (nodes l) → (1 ≤ j) × (j < B)) → (Memᴰ j (nodes k) → (1 ≤ j) × (j < B)) → (1 ≤ j) × (j < B)
      go₂ (inl n) f g = f n
      go₂ (inr n) f g = g n

      go : (j ≡ i) ⊎ Memᴰ j (nodes l ++ nodes k) → (Memᴰ j (nodes l) → (1 ≤ j) × (j < B)) → (Memᴰ j (nodes k) → (1 ≤ j) × (j < B)) → (1 ≤ j) × (j < B)
      go (inl e) f g = let a = q.1 in let a' = q.2 in omega arith
      go (inr n) f g = go₂ (Memᴰ.append_cases (nodes l) n) f g

  -- one chain, one shape to a reference
  pub chain_one : (h : ℕ) (cs ds : List ℕ) → Chain B L h cs → Chain B L h ds → cs ≡ ds
  chain_one h [] [] q q' = refl
  chain_one h [] (d ∷ ds) q q' = let e = q'.0 in let g = q'.1 in absurd (omega arith)
  chain_one h (c ∷ cs) [] q q' = let e = q.0 in let g = q.1 in absurd (omega arith)
  chain_one h (c ∷ cs) (d ∷ ds) q q' =
      let e : c ≡ d = sym q.0 ∙ q'.0 in
      let ih = chain_one c cs ds q.3 (subst (λ (x : ℕ). Chain B L x ds) (sym e) q'.3) in
      cc

  pub holds_one : (t u : Shape) (r : ℕ) → Holds B L r t → Holds B L r u → t ≡ u
  holds_one (tip h cs) (tip g ds) r q q' =
      let e : h ≡ g = sym q.0 ∙ q'.0 in
      let ih = chain_one h cs ds q.3 (subst (λ (x : ℕ). Chain B L x ds) (sym e) q'.3) in
      cc
  holds_one (tip h cs) (fork i p l k) r q q' = let a = q.0 in let b = q'.0 in let c = q.2 in let d = q'.1 in absurd (omega arith)
  holds_one (fork i p l k) (tip h cs) r q q' = let a = q.0 in let b = q'.0 in let c = q'.2 in let d = q.1 in absurd (omega arith)
  holds_one (fork i p l k) (fork j o m n) r q q' =
      let a = q.0 in
      let b = q'.0 in
      let e : i ≡ j = omega arith in
      let el = holds_one l m (word L (left_at B i)) q.4 (subst (λ (x : ℕ). Holds B L (word L (left_at B x)) m) (sym e) q'.4) in
      let ek = holds_one k n (word L (right_at B i)) q.5 (subst (λ (x : ℕ). Holds B L (word L (right_at B x)) n) (sym e) q'.5) in
      let ep : p ≡ o = sym q.3 ∙ ap (λ (x : ℕ). word L (position_at B x)) e ∙ q'.3 in
      cc

  -- a chain does not come back to its start
  from_inside : (h : ℕ) (cs : List ℕ) → Chain B L h cs → (c : ℕ) → Memᴰ c cs → (ds : List ℕ) × Chain B L c ds × (length ds < length cs)
  from_inside h [] q c m = absurd (Memᴰ.not-nil m)
  from_inside h (d ∷ cs) q c m = go (Memᴰ.cases_cons m) (from_inside d cs q.3 c)
    where
      go : (c ≡ d) ⊎ Memᴰ c cs → (Memᴰ c cs → (ds : List ℕ) × Chain B L c ds × (length ds < length cs)) → (ds : List ℕ) × Chain B L c ds × (length ds < length (d ∷ cs))
      go (inl e) ih = (cs, subst (λ (x : ℕ). Chain B L x cs) (sym e) q.3, omega arith)
      go (inr n) ih = let r = ih n in (r.0, r.1, omega arith)

  pub chain_no_return : (h : ℕ) (cs : List ℕ) → Chain B L h cs → Memᴰ h cs → ⊥
  chain_no_return h cs q m = let r = from_inside h cs q h m in omega (arith, ap length (chain_one h cs r.0 q r.1))

  -- the shape at a node inside a shape
  size : Shape → ℕ
  size (tip h cs) = 0
  size (fork i p l k) = suc (size l + size k)

  record Inside (t : Shape) (j : ℕ) : Type 0 where
    part : Shape
    spelled : Holds B L (B + j) part
    within : (c : ℕ) → Memᴰ c (blocks part) → Memᴰ c (blocks t)
    small : size part ≤ size t

  inside : (t : Shape) (r : ℕ) → Holds B L r t → (j : ℕ) → Memᴰ j (nodes t) → Inside t j
  unfolding size
  inside (tip h cs) r q j m = absurd (Memᴰ.not-nil m)
  inside (fork i p l k) r q j m = go (Memᴰ.cases_cons m) (inside l _ q.4 j) (inside k _ q.5 j)
    where
      go₂ : Memᴰ j (nodes l) ⊎ Memᴰ j (nodes k) → (Memᴰ j (nodes l) → Inside l j) → (Memᴰ j (nodes k) → Inside k j) → Inside (fork i p l k) j
      go₂ (inl n) f g = let x = f n in record { part = x.part; spelled = x.spelled; within = λ c m'. Memᴰ.append_left (blocks k) (x.within c m'); small = omega (arith, x.small) }
      go₂ (inr n) f g = let x = g n in record { part = x.part; spelled = x.spelled; within = λ c m'. Memᴰ.append_right (blocks l) (x.within c m'); small = omega (arith, x.small) }

      go : (j ≡ i) ⊎ Memᴰ j (nodes l ++ nodes k) → (Memᴰ j (nodes l) → Inside l j) → (Memᴰ j (nodes k) → Inside k j) → Inside (fork i p l k) j
      go (inl e) f g = record { part = fork i p l k; spelled = (ap (λ (x : ℕ). B + x) e, q.1, q.2, q.3, q.4, q.5); within = λ c m'. m'; small = le_refl _ }
      go (inr n) f g = go₂ (Memᴰ.append_cases (nodes l) n) f g

  -- a node is not below itself
  pub not_below : (i p : ℕ) (l k : Shape) (r : ℕ) → Holds B L r (fork i p l k) → (Memᴰ i (nodes l) → ⊥) × (Memᴰ i (nodes k) → ⊥)
  unfolding size
  not_below i p l k r q = (left, right)
    where
      whole : Holds B L (B + i) (fork i p l k)
      whole = (refl, q.1, q.2, q.3, q.4, q.5)

      left : Memᴰ i (nodes l) → ⊥
      left m = let x = inside l _ q.4 i m in omega (arith, ap size (holds_one x.part (fork i p l k) (B + i) x.spelled whole), x.small)

      right : Memᴰ i (nodes k) → ⊥
      right m = let x = inside k _ q.5 i m in omega (arith, ap size (holds_one x.part (fork i p l k) (B + i) x.spelled whole), x.small)

  module _ (F : ℕ) (sigs : List ℕ) where
    pub blocks_placed : (path : List Edge) (t : Shape) → Placed F sigs L path t → (c : ℕ) → Memᴰ c (blocks t) → (word L (filed_at c) ≡ 1) × Agrees F (signature_of sigs c) path
    blocks_placed path (tip h cs) q c m = ((q.1 c m).0, subst (λ (x : ℕ). Agrees F x path) (sym (q.1 c m).1) q.0)
    blocks_placed path (fork i p l k) q c m = go (Memᴰ.append_cases (blocks l) m) (blocks_placed (edge p 0 ∷ path) l q.3 c) (blocks_placed (edge p 1 ∷ path) k q.4 c)
      where
        go : Memᴰ c (blocks l) ⊎ Memᴰ c (blocks k) → (Memᴰ c (blocks l) → (word L (filed_at c) ≡ 1) × Agrees F (signature_of sigs c) (edge p 0 ∷ path)) → (Memᴰ c (blocks k) → (word L (filed_at c) ≡ 1) × Agrees F (signature_of sigs c) (edge p 1 ∷ path)) → (word L (filed_at c) ≡ 1) × Agrees F (signature_of sigs c) path
        go (inl n) f g = ((f n).0, (f n).1.1)
        go (inr n) f g = ((g n).0, (g n).1.1)

    -- no block on both sides of a node: its bit there is 0 and 1
    pub blocks_apart : (path : List Edge) (i p : ℕ) (l k : Shape) → Placed F sigs L path (fork i p l k) → (c : ℕ) → Memᴰ c (blocks l) → Memᴰ c (blocks k) → ⊥
    blocks_apart path i p l k q c m n =
        let a : bit_at F (signature_of sigs c) p ≡ 0 = (blocks_placed (edge p 0 ∷ path) l q.3 c m).1.0 in
        let b : bit_at F (signature_of sigs c) p ≡ 1 = (blocks_placed (edge p 1 ∷ path) k q.4 c n).1.0 in
        omega (arith, sym a ∙ b)

    pub some_block : (t : Shape) → (c : ℕ) × Memᴰ c (blocks t)
    some_block (tip h cs) = (h, Memᴰ.head refl)
    some_block (fork i p l k) = let x = some_block l in (x.0, Memᴰ.append_left (blocks k) x.1)

    -- and no node
    pub nodes_apart : (path : List Edge) (i p : ℕ) (l k : Shape) (r : ℕ) → Holds B L r (fork i p l k) → Placed F sigs L path (fork i p l k) → (j : ℕ) → Memᴰ j (nodes l) → Memᴰ j (nodes k) → ⊥
    nodes_apart path i p l k r h q j m n =
        let x = inside l _ h.4 j m in
        let y = inside k _ h.5 j n in
        let c = some_block x.part in
        let e = holds_one x.part y.part (B + j) x.spelled y.spelled in
        blocks_apart path i p l k q c.0 (x.within _ c.1) (y.within _ (subst (λ (t : Shape). Memᴰ c.0 (blocks t)) e c.1))
