-- A chain without one of its blocks: the block before it leads on past it. Since no block is on the chain twice, the definition's search
-- finds that block, and the next words of all others stay.
-- Assumes nothing.
use Prim.Native.Nat.{ℕ, zero, suc, ◌≤◌}
use native.Mathlib.Omega.{arith}
use mathlib.Core.Path.{◌≡◌, refl, sym, ◌∙◌, ap}
use mathlib.Core.Logic.{◌≢◌}
use mathlib.Core.List.Memᴰ
use mathlib.Core.List.{List, ◌∷◌, Memᴰ}
use lib.ListN.{length}
use borrow.Author.Tests.{eq-eqb, ne_eqb}
use Rattle.model.specs.Tables.{next_of}
use Rattle.model.specs.Sound.{Chain}
use Rattle.model.specs.Withdraw.{block_before}
use Rattle.model.proofs.Pigeon.{without}
use Rattle.tables.proofs.Shapes.{chain_move, chain_no_return}

-- the block before b on the chain h, cs
abbrev pub before : {b : ℕ} {cs : List ℕ} → ℕ → Memᴰ b cs → ℕ
before h (Memᴰ.head e) = h
before h (Memᴰ.tail {x = x} m) = before x m

pub before_in : {b : ℕ} {cs : List ℕ} (h : ℕ) (m : Memᴰ b cs) → Memᴰ (before h m) (h ∷ cs)
before_in h (Memᴰ.head e) = Memᴰ.head refl
before_in h (Memᴰ.tail {x = x} m) = Memᴰ.tail (before_in x m)

module _ (B : ℕ) (L : List ℕ) where
  pub block_before_is : (h b : ℕ) (cs : List ℕ) (m : Memᴰ b cs) (n : ℕ) → Chain B L h cs → length cs ≤ n → block_before L b n h ≡ before h m
  unfolding block_before
  block_before_is h b mathlib.Core.List.[] m n q d = elim m [ ]
  block_before_is h b (x ∷ xs) (Memᴰ.head e) zero q d = refl
  block_before_is h b (x ∷ xs) (Memᴰ.head e) (suc n) q d = rw (eq-eqb (next_of L h) b (q.0 ∙ sym e), block_before)
  block_before_is h b (x ∷ xs) (Memᴰ.tail m) zero q d = absurd (omega arith)
  block_before_is h b (x ∷ xs) (Memᴰ.tail m) (suc n) q d =
      rw (ne_eqb (next_of L h) b (λ e. chain_no_return B L x xs q.3 (Memᴰ.cast (sym q.0 ∙ e) m)), block_before, q.0) (block_before_is x b xs m n q.3 (omega arith))

  pub before_other : (h b : ℕ) (cs : List ℕ) (m : Memᴰ b cs) → Chain B L h cs → before h m ≢ b
  before_other h b mathlib.Core.List.[] m q y = elim m [ ]
  before_other h b (x ∷ xs) (Memᴰ.head e) q y = chain_no_return B L h (x ∷ xs) q (Memᴰ.head (y ∙ e))
  before_other h b (x ∷ xs) (Memᴰ.tail m) q y = before_other x b xs m q.3 y

  pub chain_cut : (L' : List ℕ) (h b : ℕ) (cs : List ℕ) (m : Memᴰ b cs) → Chain B L h cs → next_of L' (before h m) ≡ next_of L b
      → ((c : ℕ) → Memᴰ c (h ∷ cs) → c ≢ b → c ≢ before h m → next_of L' c ≡ next_of L c) → Chain B L' h (without m)
  unfolding without
  chain_cut L' h b mathlib.Core.List.[] m q z same = elim m [ ]
  chain_cut L' h b (x ∷ xs) (Memᴰ.head e) q z same =
      chain_move B L L' x h xs (z ∙ ap (next_of L) e)
      (λ c n. same c (Memᴰ.tail (Memᴰ.tail n)) (λ y. chain_no_return B L x xs q.3 (Memᴰ.cast (sym e ∙ sym y) n)) (λ y. chain_no_return B L h (x ∷ xs) q (Memᴰ.tail (Memᴰ.cast (sym y) n))))
      q.3
  chain_cut L' h b (x ∷ xs) (Memᴰ.tail m) q z same = (
    same h (Memᴰ.head refl) (λ y. chain_no_return B L h (x ∷ xs) q (Memᴰ.tail (Memᴰ.cast y m))) (λ y. chain_no_return B L h (x ∷ xs) q (Memᴰ.cast y (before_in x m))) ∙ q.0,
    q.1,
    q.2,
    chain_cut L' x b xs m q.3 z (λ c n. same c (Memᴰ.tail n)),
  )
