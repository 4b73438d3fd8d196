-- Which of its three ways a filing takes: what the definition gives in each case, on any tables, and what sound tables have in each: room
-- in the count, a leaf at the end of the walk, and a free node while some block is unfiled.
-- Assumes nothing.
use Prim.Native.Nat.{ℕ, zero, suc, ◌≤◌, ◌<◌}
use native.Mathlib.Decide.{ℕ_discrete}
use native.Mathlib.Omega.{arith}
use mathlib.Core.Path.{◌≡◌, refl, sym, subst}
use mathlib.Core.Logic.{◌⊎◌, inl, inr, ◌≢◌}
use mathlib.Core.List.Memᴰ
use mathlib.Core.List.{List, [], ◌∷◌, Memᴰ}
use lib.ListN.{length}
use borrow.Author.Tests.{eq-eqb, ne_eqb}
use Rattle.model.specs.Signature.{bit_at, first_difference}
use Rattle.model.specs.Tables.{word, root_at, width_of, root_of, free_of, count_of, filed_of, signature_of}
use Rattle.model.specs.Sound.{Shape, tip, Rooted, none, some, HoldsRoot, nodes, FreeChain, filed_up_to, SoundAt}
use Rattle.model.specs.Stores.{stores}
use Rattle.model.specs.File.{spot_of, first_stores, chain_stores, split_stores, file_stores, file_links}
use Rattle.tables.proofs.Counts.{node_left, filed_few}
use Rattle.tables.proofs.Trees.{depth_root}
use Rattle.tables.proofs.Ways.{Way, reach, spot, spot_from_spot, part_holds}
use Rattle.tables.proofs.After.{Old, old}
use Rattle.file.proofs.Good.{Fileable}

-- the definition, where the walk ends at address at with reference h
module _ (sigs links : List ℕ) (b s at h : ℕ) (is_at : at ≡ spot_of (length sigs) (width_of links) links s) (is_h : word links at ≡ h) where
  pub links_first : h ≡ 0 → file_links sigs links b s ≡ stores links (first_stores links b)
  unfolding file_links file_stores
  links_first z = rw (← is_at, is_h) (rw (eq-eqb h 0 z, file_stores))

  pub links_join : h ≢ 0 → signature_of sigs h ≡ s → file_links sigs links b s ≡ stores links (chain_stores links b h)
  unfolding file_links file_stores
  links_join z e = rw (← is_at, is_h) (rw (ne_eqb h 0 z, eq-eqb (signature_of sigs h) s e, file_stores))

  pub links_split : h ≢ 0 → signature_of sigs h ≢ s → (d e : ℕ) → d ≡ first_difference (width_of links) s (signature_of sigs h) → e ≡ bit_at (width_of links) s d
      → file_links sigs links b s ≡ stores links (split_stores (length sigs) links b at h (free_of links) d e)
  unfolding file_links file_stores
  links_split z n d e is_d is_e = rw (is_e, is_d) (rw (← is_at, is_h) (rw (ne_eqb h 0 z, ne_eqb (signature_of sigs h) s n, file_stores)))

-- where filed words are 0 or 1, fewer than n of n blocks are filed while one of them is not
module _ (links : List ℕ) where
  filed_fewer : (n b : ℕ) → 1 ≤ b → b ≤ n → filed_of links b ≡ 0 → ((c : ℕ) → 1 ≤ c → c ≤ n → filed_of links c ≤ 1) → filed_up_to links n < n
  filed_fewer zero b h k z o = absurd (omega arith)
  filed_fewer (suc n) b h k z o = go (ℕ_discrete b (suc n)) (λ k'. filed_fewer n b h k' z (λ c x x'. o c x (omega arith)))
    where
      go : Dec (b ≡ suc n) → (b ≤ n → filed_up_to links n < n) → filed_up_to links (suc n) < suc n
      go (yes e) ih =
          let z' : filed_of links (suc n) ≡ 0 = rw (← e) z in
          omega (arith, filed_few links n (λ c x x'. o c x (omega arith)))
      go (no d) ih = omega (arith, ih (omega arith), o (suc n) (omega arith) (omega arith))

module _ {B F : ℕ} {sigs L : List ℕ} {S : SoundAt B F sigs L} {b s : ℕ} (Q : Fileable S b s) where
  pub room : count_of L < B
  room = omega (arith, S.counted, filed_fewer L B b Q.from Q.to Q.unfiled S.filed_bit)

  -- the leaf at the end of the walk through a tree
  pub record AtLeaf (t : Shape) : Type 0 where
    pub head : ℕ
    pub others : List ℕ
    pub way : Way F s (tip head others) t
    pub spotted : spot B root_at way ≡ spot_of B F L s
    pub reference : word L (spot B root_at way) ≡ head
    pub from : 1 ≤ head
    pub to : head ≤ B

  pub at_leaf : (t : Shape) → S.tree ≡ some t → AtLeaf t
  at_leaf t e =
      let O = old S t e in
      let r = reach F s t in
      let q = part_holds B L root_at r.to O.holds in
      record {
        head = r.head;
        others = r.others;
        way = r.to;
        spotted = sym (spot_from_spot B L r.to F root_at O.holds (depth_root F sigs L t O.placed));
        reference = q.0;
        from = q.1;
        to = q.2;
      }

  -- the first free node
  pub record Spare : Type 0 where
    pub first : ℕ
    pub rest : List ℕ
    pub chain : S.free ≡ first ∷ rest
    pub word : free_of L ≡ first
    pub from : 1 ≤ first
    pub to : first < B

  pub spare : (t : Shape) → S.tree ≡ some t → Spare
  spare t e = go S.free refl S.free_holds
    where
      O : Old S t
      O = old S t e

      in_tree : S.free ≡ [] → (i : ℕ) → Memᴰ i (nodes t) ⊎ Memᴰ i S.free → Memᴰ i (nodes t)
      in_tree x i (inl m) = m
      in_tree x i (inr m) = absurd (Memᴰ.not-nil (subst (Memᴰ i) x m))

      go : (f : List ℕ) → S.free ≡ f → FreeChain B L (free_of L) f → Spare
      go [] x q = absurd (node_left B F sigs L t (root_of L) O.holds O.placed b Q.from Q.to Q.unfiled (λ i y z. in_tree x i (O.all i y z)))
      go (i ∷ is) x q = record { first = i; rest = is; chain = x; word = q.0; from = q.1; to = q.2 }

  -- root 0 is no tree
  pub some_tree : root_of L ≢ 0 → (t : Shape) × (S.tree ≡ some t)
  some_tree n = go S.tree refl S.holds
    where
      go : (t : Rooted) → S.tree ≡ t → HoldsRoot B L (root_of L) t → (u : Shape) × (S.tree ≡ some u)
      go none e q = absurd (n q)
      go (some t) e q = (t, e)
