-- Along a chain to the block before another. A chain has no block twice, so it has at most B, and the search that passes one block
-- at a time, while it keeps what is left of the chain, ends where the definition's does.
-- Assumes nothing.
use Prim.Native.Nat.{ℕ, zero, suc, ◌-◌, ◌≤◌, ◌<◌}
use native.Mathlib.Omega.{arith}
use mathlib.Core.Path.{◌≡◌, sym, ◌∙◌, ap, subst}
use mathlib.Core.Logic.{◌⊎◌, inl, inr, ◌≢◌}
use mathlib.Core.List.Memᴰ
use mathlib.Core.List.{List, [], ◌∷◌, Memᴰ}
use lib.ListN.{length}
use borrow.Author.Tests.{eq-eqb, ne_eqb}
use Rattle.model.specs.Tables.{next_of}
use Rattle.model.specs.Sound.{Chain}
use Rattle.model.specs.Withdraw.{block_before}
use Rattle.tables.proofs.Distinct.{chain_short}

-- The search for the block before b has come to block c, with n blocks left to pass; a is the definition's answer.
pub record Sought (B : ℕ) (L : List ℕ) (b a n c : ℕ) : Type 0 where
  pub rest : List ℕ
  pub chain : Chain B L c rest
  pub meets : Memᴰ b rest
  pub short : length rest ≤ n
  pub same : block_before L b n c ≡ a

-- what is left is not empty
more : (B : ℕ) (L : List ℕ) (b c : ℕ) (ds : List ℕ) → Memᴰ b ds → Chain B L c ds → (0 < length ds) × (1 ≤ next_of L c) × (next_of L c ≤ B)
more B L b c [] m q = absurd (Memᴰ.not-nil m)
more B L b c (d ∷ ds) m q = let e = q.0 in let f = q.1 in let g = q.2 in omega arith

module _ {B : ℕ} {L : List ℕ} {b : ℕ} where
  pub seek : {h : ℕ} (n : ℕ) → n ≡ B → (cs : List ℕ) → Chain B L h cs → Memᴰ b cs → Sought B L b (block_before L b B h) n h
  seek {h} n e cs q m = record { rest = cs; chain = q; meets = m; short = omega (arith, e, chain_short B L h cs q); same = ap (λ (k : ℕ). block_before L b k h) e }

  pub some_left : {a n c : ℕ} → Sought B L b a n c → 0 < n
  some_left {a} {n} {c} K = let h = (more B L b c K.rest K.meets K.chain).0 in omega (arith, K.short)

  -- x is the block after c
  module _ {c x : ℕ} (e : x ≡ next_of L c) where
    pub next_is_block : {a n : ℕ} → Sought B L b a n c → (1 ≤ x) × (x ≤ B)
    next_is_block K = let h = more B L b c K.rest K.meets K.chain in rw e (h.1, h.2)

    pub found_before : {a : ℕ} (n : ℕ) → Sought B L b a n c → x ≡ b → c ≡ a
    unfolding block_before
    found_before zero K y = absurd (omega (arith, some_left K))
    found_before (suc n) K y = rw (eq-eqb (next_of L c) b (sym e ∙ y), block_before) at K.same

    pub pass : {a : ℕ} (n : ℕ) → Sought B L b a n c → x ≢ b → Sought B L b a (n - 1) x
    unfolding block_before
    pass zero K ne = absurd (omega (arith, some_left K))
    pass {a} (suc n) K ne = go K.rest K.chain K.meets K.short
      where
        less : suc n - 1 ≡ n
        less = omega arith

        same : block_before L b n x ≡ a
        same = rw e (rw (ne_eqb (next_of L c) b (λ y. ne (e ∙ y)), block_before) at K.same)

        later : {d : ℕ} {ds : List ℕ} → next_of L c ≡ d → (b ≡ d) ⊎ Memᴰ b ds → Memᴰ b ds
        later y (inl z) = absurd (ne (e ∙ y ∙ sym z))
        later y (inr m) = m

        go : (ds : List ℕ) → Chain B L c ds → Memᴰ b ds → length ds ≤ suc n → Sought B L b a (suc n - 1) x
        go [] q m l = absurd (Memᴰ.not-nil m)
        go (d ∷ ds) q m l = record {
          rest = ds;
          chain = subst (λ (y : ℕ). Chain B L y ds) (sym (e ∙ q.0)) q.3;
          meets = later q.0 (Memᴰ.cases_cons m);
          short = omega arith;
          same = rw less same;
        }
