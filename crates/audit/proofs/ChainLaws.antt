-- The chain's walk: its steps as the code takes them; where it is fit, the blocks that it met are a chain of the signature, and such
-- a chain is fit where its blocks are lent.
-- Assumes nothing.
use Prim.Native.Nat.{ℕ, zero, suc, ◌+◌, ◌-◌, ◌≤◌}
use native.Mathlib.Decide.{ℕ_discrete}
use native.Mathlib.Omega.{arith}
use mathlib.Core.Path.{◌≡◌, refl, sym, ◌∙◌, ap, subst}
use mathlib.Core.Logic.{◌⊎◌, inl, inr, ◌≢◌}
use mathlib.Core.Bool.{Bool, true, false}
use mathlib.Core.List.Memᴰ
use mathlib.Core.List.{List, [], ◌∷◌, Memᴰ}
use lib.Dec.{eqb, ltb}
use lib.ListN.{length}
use borrow.Author.Tests.{eq-eqb, ne_eqb, le-ltb, eqb-true, ltb-false}
use Rattle.std.specs.Prelude.{Option, None, Some}
use Rattle.model.specs.Basics.{pick}
use Rattle.model.specs.Tables.{next_of, filed_of, signature_of}
use Rattle.model.specs.Sound.{Chain}
use Rattle.audit.specs.Audit.{block_ok, chain_twin}
use Rattle.model.proofs.Picks.{pick_false, pick_true}

-- what is not there is nothing's
pub no_some : {A T : Type 0} {x : A} → None ≡ Some x → T
no_some e = absurd (cc)

-- a block on a chain of signature s
pub record BlockIs (S L : List ℕ) (s b : ℕ) : Type 0 where
  pub to : b ≤ length S
  pub filed : filed_of L b ≡ 1
  pub same : signature_of S b ≡ s

pub block_yes : (S L : List ℕ) (s b : ℕ) → block_ok S L s b ≡ true → BlockIs S L s b
unfolding block_ok
block_yes S L s b e =
    let p = pick_false (ltb (length S) b) _ e in
    let p2 = pick_true (eqb (filed_of L b) 1) _ p.1 in
    record { to = ltb-false _ _ p.0; filed = eqb-true _ _ p2.0; same = eqb-true _ _ p2.1 }

block_whole : (S L : List ℕ) (s b : ℕ) → BlockIs S L s b → block_ok S L s b ≡ true
unfolding block_ok
block_whole S L s b x = simp (le-ltb _ _ x.to, eq-eqb _ _ x.filed, eq-eqb _ _ x.same)

block_none : (S L : List ℕ) (s b : ℕ) → (filed_of L b ≡ 1 → ⊥) → block_ok S L s b ≡ false
unfolding block_ok
block_none S L s b n = go (ltb (length S) b)
  where
    go : (t : Bool) → pick t false (pick (eqb (filed_of L b) 1) (eqb (signature_of S b) s) false) ≡ false
    go true = refl
    go false = simp (ne_eqb _ _ n)

-- the steps of a chain's walk
module _ (S L : List ℕ) (s b : ℕ) where
  pub chain_end : (k : ℕ) → b ≡ 0 → chain_twin k S L s b ≡ Some k
  unfolding chain_twin
  chain_end zero e = simp (eq-eqb b 0 e)
  chain_end (suc k) e = simp (eq-eqb b 0 e)

  pub chain_none : (k : ℕ) → k ≡ 0 → (b ≡ 0 → ⊥) → chain_twin k S L s b ≡ None
  unfolding chain_twin
  chain_none zero e ne = simp (ne_eqb b 0 ne)
  chain_none (suc k) e ne = absurd (omega arith)

  pub chain_stop : (k : ℕ) → (b ≡ 0 → ⊥) → block_ok S L s b ≡ false → chain_twin k S L s b ≡ None
  unfolding chain_twin
  chain_stop zero ne e = simp (ne_eqb b 0 ne)
  chain_stop (suc k) ne e = simp (ne_eqb b 0 ne, e)

  pub chain_go : (k : ℕ) → (k ≡ 0 → ⊥) → (b ≡ 0 → ⊥) → block_ok S L s b ≡ true → chain_twin k S L s b ≡ chain_twin (k - 1) S L s (next_of L b)
  unfolding chain_twin
  chain_go zero nk ne e = absurd (omega arith)
  chain_go (suc k) nk ne e =
      let d : suc k - 1 ≡ k = omega arith in
      rw d (simp (ne_eqb b 0 ne, e))

  chain_step_is : (k : ℕ) → (b ≡ 0 → ⊥) → block_ok S L s b ≡ true → chain_twin (suc k) S L s b ≡ chain_twin k S L s (next_of L b)
  chain_step_is k ne e = let d : suc k - 1 ≡ k = omega arith in chain_go (suc k) (omega arith) ne e ∙ ap (λ (n : ℕ). chain_twin n S L s (next_of L b)) d

-- the head of a chain has its own signature: of it only the filed word is asked
module _ (S L : List ℕ) (b k : ℕ) (ne : b ≡ 0 → ⊥) where
  pub head_none : (k ≡ 0) ⊎ ((k ≡ 0 → ⊥) × (filed_of L b ≡ 1 → ⊥)) → chain_twin k S L (signature_of S b) b ≡ None
  head_none (inl z) = chain_none S L (signature_of S b) b k z ne
  head_none (inr n) = chain_stop S L (signature_of S b) b k ne unfiled
    where
      unfiled : block_ok S L (signature_of S b) b ≡ false
      unfiled = block_none S L (signature_of S b) b n.1

  pub head_next : b ≤ length S → (k ≡ 0 → ⊥) → filed_of L b ≡ 1 → chain_twin k S L (signature_of S b) b ≡ chain_twin (k - 1) S L (signature_of S b) (next_of L b)
  head_next to nk f = chain_go S L (signature_of S b) b k nk ne (block_whole S L (signature_of S b) b (record { to = to; filed = f; same = refl }))

-- the blocks from block number b by the next words, zero ending
abbrev pub From : ℕ → List ℕ → ℕ → List ℕ → Type 0
From B L b [] = b ≡ 0
From B L b (c ∷ cs) = (b ≡ c) × (1 ≤ c) × (c ≤ B) × From B L (next_of L c) cs

pub from_chain : (B : ℕ) (L : List ℕ) (h : ℕ) (cs : List ℕ) → From B L (next_of L h) cs → Chain B L h cs
from_chain B L h [] q = q
from_chain B L h (c ∷ cs) q = (q.0, q.1, q.2, from_chain B L c cs q.3)

pub chain_from : (B : ℕ) (L : List ℕ) (h : ℕ) (cs : List ℕ) → Chain B L h cs → From B L (next_of L h) cs
chain_from B L h [] q = q
chain_from B L h (c ∷ cs) q = (q.0, q.1, q.2, chain_from B L c cs q.3)

module _ (S L : List ℕ) where
  -- filed blocks of signature s
  abbrev pub Good : ℕ → List ℕ → Type 0
  Good s list = (c : ℕ) → Memᴰ c list → (filed_of L c ≡ 1) × (signature_of S c ≡ s)

  -- a fit chain from block b, of which left of the k blocks lent are left
  pub record ChainYes (s k b left : ℕ) : Type 0 where
    pub list : List ℕ
    pub from : From (length S) L b list
    pub good : Good s list
    pub used : length list + left ≡ k

  abbrev pub ChainIs : ℕ → ℕ → ℕ → Option ℕ → Type 0
  ChainIs s k b c = (left : ℕ) → c ≡ Some left → ChainYes s k b left

  chain_over : (s k b : ℕ) → b ≡ 0 → ChainIs s k b (chain_twin k S L s b)
  chain_over s k b e = subst (ChainIs s k b) (sym (chain_end S L s b k e)) (λ left x. let i : k ≡ left = cc in record { list = []; from = e; good = λ c m. absurd (Memᴰ.not-nil m); used = omega arith })

  pub chain_yes : (s k b : ℕ) → ChainIs s k b (chain_twin k S L s b)
  chain_yes s zero b = go (ℕ_discrete b 0)
    where
      go : Dec (b ≡ 0) → ChainIs s zero b (chain_twin zero S L s b)
      go (yes e) = chain_over s zero b e
      go (no ne) = subst (ChainIs s zero b) (sym (chain_none S L s b zero refl ne)) (λ left x. no_some x)
  chain_yes s (suc k) b = go (ℕ_discrete b 0) (block_ok S L s b) refl (chain_yes s k (next_of L b))
    where
      more : b ≢ 0 → BlockIs S L s b → (left : ℕ) → ChainYes s k (next_of L b) left → ChainYes s (suc k) b left
      more ne x left y = record { list = b ∷ y.list; from = (refl, omega arith, x.to, y.from); good = λ c m. each c (Memᴰ.cases_cons m); used = omega (arith, y.used) }
        where
          each : (c : ℕ) → (c ≡ b) ⊎ Memᴰ c y.list → (filed_of L c ≡ 1) × (signature_of S c ≡ s)
          each c (inl e) = subst (λ (z : ℕ). (filed_of L z ≡ 1) × (signature_of S z ≡ s)) (sym e) (x.filed, x.same)
          each c (inr m) = y.good c m

      go : Dec (b ≡ 0) → (t : Bool) → block_ok S L s b ≡ t → ChainIs s k (next_of L b) (chain_twin k S L s (next_of L b)) → ChainIs s (suc k) b (chain_twin (suc k) S L s b)
      go (yes e) t q ih = chain_over s (suc k) b e
      go (no ne) false q ih = subst (ChainIs s (suc k) b) (sym (chain_stop S L s b (suc k) ne q)) (λ left x. no_some x)
      go (no ne) true q ih = subst (ChainIs s (suc k) b) (sym (chain_step_is S L s b k ne q)) (λ left x. more ne (block_yes S L s b q) left (ih left x))

  pub chain_whole : (s left : ℕ) (list : List ℕ) (k b : ℕ) → From (length S) L b list → Good s list → k ≡ length list + left → chain_twin k S L s b ≡ Some left
  chain_whole s left [] k b q g u = let i : k ≡ left = omega arith in chain_end S L s b k q ∙ ap (λ (x : ℕ). Some x) i
  chain_whole s left (c ∷ cs) zero b q g u = absurd (omega arith)
  chain_whole s left (c ∷ cs) (suc k) b q g u =
      let j : b ≡ c = q.0 in
      let one = q.1 in
      let x = g c (Memᴰ.head refl) in
      let bi : BlockIs S L s b = subst (BlockIs S L s) (sym j) (record { to = q.2; filed = x.0; same = x.1 }) in
      chain_step_is S L s b k (omega arith) (block_whole S L s b bi)
      ∙ chain_whole s left cs k (next_of L b) (subst (λ (y : ℕ). From (length S) L (next_of L y) cs) (sym j) q.3) (λ d m. g d (Memᴰ.tail m)) (omega arith)
