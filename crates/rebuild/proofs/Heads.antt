-- The heads of a sound tree and their chains: the definition's heads are those of the leaves, no two have one signature, since paths
-- part at a position, and every block stands on the chain of one.
-- Assumes nothing.
use Prim.Native.Nat.{ℕ, zero, suc, ◌-◌, ◌≤◌, ◌<◌}
use native.Mathlib.Decide.{dec_lt}
use native.Mathlib.Omega.{arith}
use mathlib.Core.Path.{◌≡◌, refl, sym, ap, subst}
use mathlib.Core.Logic.{◌⊎◌, inl, inr}
use mathlib.Core.Bool.{Bool, true, false}
use mathlib.Core.List.Memᴰ
use mathlib.Core.List.{List, [], ◌∷◌, ◌++◌, Memᴰ}
use lib.Dec.{eqb}
use lib.ListN.{length, length-append}
use borrow.Author.Tests.{ne_eqb, le-leb, lt-leb, eqb-true}
use Rattle.model.specs.Signature.{bit_at}
use Rattle.model.specs.Tree.{Edge, edge, Agrees}
use Rattle.model.specs.Tables.{filed_of, left_of, right_of, signature_of}
use Rattle.model.specs.Sound.{Shape, tip, fork, Chain, Holds, blocks, Placed}
use Rattle.model.specs.Rebuild.{heads_from}
use Rattle.model.proofs.Members.{total, total_append}
use Rattle.model.proofs.Pigeon.{down_from, down_from_length, down_from_has, distinct_fits}
use Rattle.tables.proofs.Shapes.{blocks_placed, blocks_range}
use Rattle.tables.proofs.Trees.{depth}
use Rattle.tables.proofs.Sides.{pick}
use Rattle.tables.proofs.Counts.{heads, heads_blocks, heads_distinct}
use Rattle.split.specs.Split.{hits, Apart}

-- block b heads the chain cs: filed blocks of its signature
pub record Heads (B : ℕ) (sigs links : List ℕ) (b : ℕ) (cs : List ℕ) : Type 0 where
  pub from : 1 ≤ b
  pub to : b ≤ B
  pub chain : Chain B links b cs
  pub alike : (c : ℕ) → Memᴰ c (b ∷ cs) → (filed_of links c ≡ 1) × (signature_of sigs c ≡ signature_of sigs b)

pub heads_some : (t : Shape) → 1 ≤ length (heads t)
heads_some (tip h cs) = omega arith
heads_some (fork i p l k) = omega (arith, length-append (heads l) (heads k), heads_some l)

-- the definition's heads are those of the shape
pub heads_from_shape : (B : ℕ) (L : List ℕ) (t : Shape) (n r : ℕ) → Holds B L r t → depth t ≤ n → heads_from B L n r ≡ heads t
unfolding heads_from
heads_from_shape B L (tip h cs) zero r q d =
    let a = q.0 in
    let b = q.1 in
    rw (ne_eqb r 0 (omega arith), heads_from, q.0)
heads_from_shape B L (tip h cs) (suc n) r q d =
    let a = q.0 in
    let b = q.1 in
    let c = q.2 in
    rw (ne_eqb r 0 (omega arith), heads_from, le-leb r B (omega arith), q.0)
heads_from_shape B L (fork i p l k) zero r q d = absurd (omega arith)
heads_from_shape B L (fork i p l k) (suc n) r q d =
    let a = q.0 in
    let b = q.1 in
    let e : r - B ≡ i = omega arith in
    rw (
      ne_eqb r 0 (omega arith),
      heads_from,
      lt-leb r B (omega arith),
      e,
      heads_from_shape B L l n (left_of B L i) q.4 (omega arith),
      heads_from_shape B L k n (right_of B L i) q.5 (omega arith),
    )

pub heads_from_none : (B : ℕ) (L : List ℕ) (n r : ℕ) → r ≡ 0 → heads_from B L n r ≡ []
unfolding heads_from
heads_from_none B L zero r e = rw e
heads_from_none B L (suc n) r e = rw e

-- the chain behind a head: the walk by its own bits
unfoldable pub chain_in : ℕ → List ℕ → Shape → ℕ → List ℕ
chain_in F sigs (tip h cs) b = cs
chain_in F sigs (fork i p l k) b = pick (bit_at F (signature_of sigs b) p) (chain_in F sigs l b) (chain_in F sigs k b)

chain_side : (F : ℕ) (sigs : List ℕ) (i p : ℕ) (l k : Shape) (b e : ℕ) → bit_at F (signature_of sigs b) p ≡ e → chain_in F sigs (fork i p l k) b ≡ pick e (chain_in F sigs l b) (chain_in F sigs k b)
unfolding chain_in
chain_side F sigs i p l k b e h = ap (λ (x : ℕ). pick x (chain_in F sigs l b) (chain_in F sigs k b)) h

-- a hit: the block has the signature
hit_one : (sigs : List ℕ) (v b : ℕ) → 0 < hits sigs v b → signature_of sigs b ≡ v
unfolding hits
hit_one sigs v b h = go (eqb (signature_of sigs b) v) refl h
  where
    go : (t : Bool) → eqb (signature_of sigs b) v ≡ t → 0 < elim t [ true ↦ 1 | false ↦ 0 ] → signature_of sigs b ≡ v
    go true e q = eqb-true (signature_of sigs b) v e
    go false e q = absurd (omega arith)

hit_most : (sigs : List ℕ) (v b : ℕ) → hits sigs v b ≤ 1
unfolding hits
hit_most sigs v b = go (eqb (signature_of sigs b) v)
  where
    go : (t : Bool) → elim t [ true ↦ 1 | false ↦ 0 ] ≤ 1
    go true = omega arith
    go false = omega arith

module _ (B F : ℕ) (sigs L : List ℕ) where
  -- the bit of a head on a side of a node
  side_bit : (path : List Edge) (p e : ℕ) (t : Shape) → Placed F sigs L (edge p e ∷ path) t → (b : ℕ) → Memᴰ b (heads t) → bit_at F (signature_of sigs b) p ≡ e
  side_bit path p e t q b m = (blocks_placed B L F sigs (edge p e ∷ path) t q b (heads_blocks t b m)).1.0

  hit_agrees : (path : List Edge) (t : Shape) → Placed F sigs L path t → (v : ℕ) → 0 < total (hits sigs v) (heads t) → Agrees F v path
  hit_agrees path (tip h cs) q v n = subst (λ (x : ℕ). Agrees F x path) (hit_one sigs v h (omega arith)) q.0
  hit_agrees path (fork i p l k) q v n =
      go (dec_lt 0 (total (hits sigs v) (heads l))) (hit_agrees (edge p 0 ∷ path) l q.3 v) (hit_agrees (edge p 1 ∷ path) k q.4 v)
    where
      go : Dec (0 < total (hits sigs v) (heads l)) → (0 < total (hits sigs v) (heads l) → Agrees F v (edge p 0 ∷ path)) → (0 < total (hits sigs v) (heads k) → Agrees F v (edge p 1 ∷ path)) → Agrees F v path
      go (yes u) f g = (f u).1
      go (no u) f g = (g (omega (arith, total_append (hits sigs v) (heads l) (heads k)))).1

  -- no two heads have one signature
  pub heads_apart : (path : List Edge) (t : Shape) → Placed F sigs L path t → Apart sigs (heads t)
  unfolding Apart
  heads_apart path (tip h cs) q v = omega (arith, hit_most sigs v h)
  heads_apart path (fork i p l k) q v =
      let a = heads_apart (edge p 0 ∷ path) l q.3 v in
      let b = heads_apart (edge p 1 ∷ path) k q.4 v in
      go (dec_lt 0 (total (hits sigs v) (heads l))) (dec_lt 0 (total (hits sigs v) (heads k))) a b
    where
      go : Dec (0 < total (hits sigs v) (heads l)) → Dec (0 < total (hits sigs v) (heads k)) → total (hits sigs v) (heads l) ≤ 1 → total (hits sigs v) (heads k) ≤ 1
          → total (hits sigs v) (heads l ++ heads k) ≤ 1
      go (no u) w a b = omega (arith, total_append (hits sigs v) (heads l) (heads k))
      go (yes u) (no w) a b = omega (arith, total_append (hits sigs v) (heads l) (heads k))
      go (yes u) (yes w) a b =
          let x = (hit_agrees (edge p 0 ∷ path) l q.3 v u).0 in
          let y = (hit_agrees (edge p 1 ∷ path) k q.4 v w).0 in
          absurd (omega arith)

  -- each heads its chain
  pub heads_chains : (path : List Edge) (t : Shape) (r : ℕ) → Holds B L r t → Placed F sigs L path t → (b : ℕ) → Memᴰ b (heads t) → Heads B sigs L b (chain_in F sigs t b)
  unfolding chain_in
  heads_chains path (tip h cs) r q pl b m = go (Memᴰ.cases_cons m)
    where
      go : (b ≡ h) ⊎ Memᴰ b [] → Heads B sigs L b cs
      go (inl e) = subst (λ (x : ℕ). Heads B sigs L x cs) (sym e) (record { from = q.1; to = q.2; chain = q.3; alike = pl.1 })
      go (inr n) = absurd (Memᴰ.not-nil n)
  heads_chains path (fork i p l k) r q pl b m =
      go (Memᴰ.append_cases (heads l) m) (heads_chains (edge p 0 ∷ path) l _ q.4 pl.3 b) (heads_chains (edge p 1 ∷ path) k _ q.5 pl.4 b)
    where
      by : (e : ℕ) → bit_at F (signature_of sigs b) p ≡ e → Heads B sigs L b (pick e (chain_in F sigs l b) (chain_in F sigs k b)) → Heads B sigs L b (chain_in F sigs (fork i p l k) b)
      by e h = subst (Heads B sigs L b) (sym (chain_side F sigs i p l k b e h))

      go : Memᴰ b (heads l) ⊎ Memᴰ b (heads k) → (Memᴰ b (heads l) → Heads B sigs L b (chain_in F sigs l b)) → (Memᴰ b (heads k) → Heads B sigs L b (chain_in F sigs k b))
          → Heads B sigs L b (chain_in F sigs (fork i p l k) b)
      go (inl n) f g = by 0 (side_bit path p 0 l pl.3 b n) (f n)
      go (inr n) f g = by 1 (side_bit path p 1 k pl.4 b n) (g n)

  -- a head whose chain has block c
  abbrev pub Chained : Shape → ℕ → Type 0
  Chained t c = (b : ℕ) × Memᴰ b (heads t) × Memᴰ c (b ∷ chain_in F sigs t b)

  -- every block stands on a head's chain
  pub heads_cover : (path : List Edge) (t : Shape) → Placed F sigs L path t → (c : ℕ) → Memᴰ c (blocks t) → Chained t c
  unfolding chain_in
  heads_cover path (tip h cs) pl c m = (h, Memᴰ.head refl, m)
  heads_cover path (fork i p l k) pl c m =
      go (Memᴰ.append_cases (blocks l) m) (heads_cover (edge p 0 ∷ path) l pl.3 c) (heads_cover (edge p 1 ∷ path) k pl.4 c)
    where
      by : (b e : ℕ) → bit_at F (signature_of sigs b) p ≡ e → Memᴰ c (b ∷ pick e (chain_in F sigs l b) (chain_in F sigs k b)) → Memᴰ c (b ∷ chain_in F sigs (fork i p l k) b)
      by b e h = subst (λ (cs : List ℕ). Memᴰ c (b ∷ cs)) (sym (chain_side F sigs i p l k b e h))

      go : Memᴰ c (blocks l) ⊎ Memᴰ c (blocks k) → (Memᴰ c (blocks l) → Chained l c) → (Memᴰ c (blocks k) → Chained k c) → Chained (fork i p l k) c
      go (inl n) f g = let x = f n in (x.0, Memᴰ.append_left (heads k) x.1, by x.0 0 (side_bit path p 0 l pl.3 x.0 x.1) x.2)
      go (inr n) f g = let x = g n in (x.0, Memᴰ.append_right (heads l) x.1, by x.0 1 (side_bit path p 1 k pl.4 x.0 x.1) x.2)

  pub heads_few : (path : List Edge) (t : Shape) (r : ℕ) → Holds B L r t → Placed F sigs L path t → length (heads t) ≤ B
  heads_few path t r q pl =
      let n = distinct_fits (heads t) (down_from B) (heads_distinct B F sigs L path t pl) (λ b m. let g = blocks_range B L t r q b (heads_blocks t b m) in down_from_has B b g.0 g.1) in
      omega (arith, down_from_length B)
