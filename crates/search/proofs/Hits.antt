-- The blocks that a search of a sound shape marks: those of its chains that cover the query, none twice, and no more than B. A block
-- left of a node whose position is set in the query has a 0 there, so it does not cover: going right only loses nothing.
-- Assumes nothing.
use Prim.Native.Nat.{ℕ, suc, ◌≤◌}
use native.Mathlib.Omega.{arith}
use mathlib.Core.Path.{◌≡◌, refl, sym, ◌∙◌, ap, subst}
use mathlib.Core.Logic.{◌⊎◌, inl, inr, ⊎_elim}
use mathlib.Core.Bool.{Bool, true, false}
use mathlib.Core.List.Memᴰ
use mathlib.Core.List.{List, [], ◌∷◌, ◌++◌, Memᴰ}
use lib.ListN.{length, length-append}
use Rattle.model.specs.Basics.{pick}
use Rattle.model.proofs.Pigeon.{few_within}
use Rattle.tables.proofs.Distinct.{chain_distinct}
use Rattle.model.specs.Signature.{bit_at, coversb}
use Rattle.model.specs.Tree.{Edge, edge, nodes_read}
use Rattle.model.specs.Tables.{left_of, right_of, signature_of}
use Rattle.model.specs.Sound.{Shape, tip, fork, Holds, nodes, blocks, Placed}
use Rattle.model.proofs.Bits.{bit_cases}
use Rattle.model.proofs.Pigeon.{Distinct, distinct_append}
use Rattle.signature.proofs.Covering.{coversb_sound}
use Rattle.tables.proofs.Shapes.{blocks_range, blocks_placed, blocks_apart}
use Rattle.tables.proofs.Counts.{heads, heads_count, heads_blocks, heads_distinct}
use Rattle.search.proofs.Shaped.{hits, reads, forks, reads_set, reads_clear, forks_set, forks_clear, hits_set, hits_both, hits_side}

module _ (sigs : List ℕ) (F q : ℕ) where
  pub hits_blocks : (t : Shape) (b : ℕ) → Memᴰ b (hits sigs F q t) → Memᴰ b (blocks t)
  hits_blocks (tip h cs) b m = go (coversb F (signature_of sigs h) q) m
    where
      go : (t : Bool) → Memᴰ b (pick t (h ∷ cs) []) → Memᴰ b (h ∷ cs)
      go true n = n
      go false n = absurd (Memᴰ.not-nil n)
  hits_blocks (fork i p l k) b m = go (bit_cases F q p) (hits_blocks l b) (hits_blocks k b)
    where
      go : (bit_at F q p ≡ 0) ⊎ (bit_at F q p ≡ 1) → (Memᴰ b (hits sigs F q l) → Memᴰ b (blocks l)) → (Memᴰ b (hits sigs F q k) → Memᴰ b (blocks k)) → Memᴰ b (blocks l ++ blocks k)
      go (inl e) f g = ⊎_elim (λ n. Memᴰ.append_left (blocks k) (f n)) (λ n. Memᴰ.append_right (blocks l) (g n)) (hits_side sigs F q i p l k e b m)
      go (inr e) f g = Memᴰ.append_right (blocks l) (g (subst (Memᴰ b) (hits_set sigs F q i p l k e) m))

  -- a search reads no more nodes than there are, and goes both ways at no more than it reads
  pub reads_few : (t : Shape) → reads sigs F q t ≤ length (nodes t)
  unfolding nodes_read
  reads_few (tip h cs) = omega arith
  reads_few (fork i p l k) = go (bit_cases F q p) (reads_few l) (reads_few k)
    where
      go : (bit_at F q p ≡ 0) ⊎ (bit_at F q p ≡ 1) → reads sigs F q l ≤ length (nodes l) → reads sigs F q k ≤ length (nodes k) → reads sigs F q (fork i p l k) ≤ length (nodes (fork i p l k))
      go (inl e) a b = rw (reads_clear sigs F q i p l k e) (omega (arith, length-append (nodes l) (nodes k)))
      go (inr e) a b = rw (reads_set sigs F q i p l k e) (omega (arith, length-append (nodes l) (nodes k)))

  pub forks_few : (t : Shape) → forks sigs F q t ≤ reads sigs F q t
  forks_few (tip h cs) = omega arith
  forks_few (fork i p l k) = go (bit_cases F q p) (forks_few l) (forks_few k)
    where
      go : (bit_at F q p ≡ 0) ⊎ (bit_at F q p ≡ 1) → forks sigs F q l ≤ reads sigs F q l → forks sigs F q k ≤ reads sigs F q k → forks sigs F q (fork i p l k) ≤ reads sigs F q (fork i p l k)
      go (inl e) a b = rw (reads_clear sigs F q i p l k e, forks_clear sigs F q i p l k e) (omega arith)
      go (inr e) a b = rw (reads_set sigs F q i p l k e, forks_set sigs F q i p l k e) (omega arith)

module _ (B F : ℕ) (sigs L : List ℕ) where
  pub few_heads : (path : List Edge) (t : Shape) (r : ℕ) → Holds B L r t → Placed F sigs L path t → suc (length (nodes t)) ≤ B
  few_heads path t r o pl =
      subst (λ (n : ℕ). n ≤ B) (heads_count t) (few_within B (heads t) (heads_distinct B F sigs L path t pl) (λ b m. blocks_range B L t r o b (heads_blocks t b m)))

  module _ (q : ℕ) where
    pub hits_distinct : (path : List Edge) (t : Shape) (r : ℕ) → Holds B L r t → Placed F sigs L path t → Distinct (hits sigs F q t)
    hits_distinct path (tip h cs) r o pl = go (coversb F (signature_of sigs h) q)
      where
        go : (t : Bool) → Distinct (pick t (h ∷ cs) [])
        go true = chain_distinct B L h cs o.3
        go false = tt
    hits_distinct path (fork i p l k) r o pl =
        go (bit_cases F q p) (hits_distinct (edge p 0 ∷ path) l (left_of B L i) o.4 pl.3) (hits_distinct (edge p 1 ∷ path) k (right_of B L i) o.5 pl.4)
      where
        go : (bit_at F q p ≡ 0) ⊎ (bit_at F q p ≡ 1) → Distinct (hits sigs F q l) → Distinct (hits sigs F q k) → Distinct (hits sigs F q (fork i p l k))
        go (inl e) a b =
            hits_both sigs F q i p l k Distinct e
            (distinct_append (hits sigs F q l) (hits sigs F q k) a b (λ c m n. blocks_apart B L F sigs path i p l k pl c (hits_blocks sigs F q l c m) (hits_blocks sigs F q k c n)))
            (distinct_append (hits sigs F q k) (hits sigs F q l) b a (λ c m n. blocks_apart B L F sigs path i p l k pl c (hits_blocks sigs F q l c n) (hits_blocks sigs F q k c m)))
        go (inr e) a b = subst Distinct (sym (hits_set sigs F q i p l k e)) b

    pub few_hits : (path : List Edge) (t : Shape) (r : ℕ) → Holds B L r t → Placed F sigs L path t → length (hits sigs F q t) ≤ B
    few_hits path t r o pl = few_within B (hits sigs F q t) (hits_distinct path t r o pl) (λ b m. blocks_range B L t r o b (hits_blocks sigs F q t b m))

    -- each of them covers the query
    pub hits_cover : (path : List Edge) (t : Shape) → Placed F sigs L path t → (b : ℕ) → Memᴰ b (hits sigs F q t) → coversb F (signature_of sigs b) q ≡ true
    hits_cover path (tip h cs) pl b m = go (coversb F (signature_of sigs h) q) refl m
      where
        go : (t : Bool) → coversb F (signature_of sigs h) q ≡ t → Memᴰ b (pick t (h ∷ cs) []) → coversb F (signature_of sigs b) q ≡ true
        go true e n = ap (λ (s : ℕ). coversb F s q) (pl.1 b n).1 ∙ e
        go false e n = absurd (Memᴰ.not-nil n)
    hits_cover path (fork i p l k) pl b m = go (bit_cases F q p) (hits_cover (edge p 0 ∷ path) l pl.3 b) (hits_cover (edge p 1 ∷ path) k pl.4 b)
      where
        go : (bit_at F q p ≡ 0) ⊎ (bit_at F q p ≡ 1) → (Memᴰ b (hits sigs F q l) → coversb F (signature_of sigs b) q ≡ true) → (Memᴰ b (hits sigs F q k) → coversb F (signature_of sigs b) q ≡ true) → coversb F (signature_of sigs b) q ≡ true
        go (inl e) f g = ⊎_elim f g (hits_side sigs F q i p l k e b m)
        go (inr e) f g = g (subst (Memᴰ b) (hits_set sigs F q i p l k e) m)

    -- and each block that covers it is among them
    pub cover_hits : (path : List Edge) (t : Shape) → Placed F sigs L path t → (b : ℕ) → Memᴰ b (blocks t) → coversb F (signature_of sigs b) q ≡ true → Memᴰ b (hits sigs F q t)
    cover_hits path (tip h cs) pl b m e =
        let d : coversb F (signature_of sigs h) q ≡ true = ap (λ (s : ℕ). coversb F s q) (sym (pl.1 b m).1) ∙ e in
        rw d m
    cover_hits path (fork i p l k) pl b m e =
        go (bit_cases F q p) (Memᴰ.append_cases (blocks l) m) (λ n. cover_hits (edge p 0 ∷ path) l pl.3 b n e) (λ n. cover_hits (edge p 1 ∷ path) k pl.4 b n e)
      where
        go : (bit_at F q p ≡ 0) ⊎ (bit_at F q p ≡ 1) → Memᴰ b (blocks l) ⊎ Memᴰ b (blocks k)
            → (Memᴰ b (blocks l) → Memᴰ b (hits sigs F q l)) → (Memᴰ b (blocks k) → Memᴰ b (hits sigs F q k)) → Memᴰ b (hits sigs F q (fork i p l k))
        go (inl z) (inl n) f g = hits_both sigs F q i p l k (Memᴰ b) z (Memᴰ.append_left (hits sigs F q k) (f n)) (Memᴰ.append_right (hits sigs F q k) (f n))
        go (inl z) (inr n) f g = hits_both sigs F q i p l k (Memᴰ b) z (Memᴰ.append_right (hits sigs F q l) (g n)) (Memᴰ.append_left (hits sigs F q l) (g n))
        go (inr z) (inl n) f g =
            let a : bit_at F (signature_of sigs b) p ≡ 0 = (blocks_placed B L F sigs (edge p 0 ∷ path) l pl.3 b n).1.0 in
            let c : bit_at F (signature_of sigs b) p ≡ 1 = coversb_sound F (signature_of sigs b) q e p pl.0 pl.1 z in
            absurd (omega (arith, sym a ∙ c))
        go (inr z) (inr n) f g = subst (Memᴰ b) (sym (hits_set sigs F q i p l k z)) (g n)
