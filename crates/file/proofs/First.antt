-- Filing into an empty tree: the root becomes the leaf, and the nodes stay free.
-- Assumes nothing.
use Prim.Native.Nat.{ℕ}
use native.Mathlib.Omega.{arith}
use mathlib.Core.Path.{◌≡◌, refl, sym, ◌∙◌, ap, subst}
use mathlib.Core.Logic.{◌⊎◌, inl, inr}
use mathlib.Core.List.Memᴰ
use mathlib.Core.List.{List, [], ◌∷◌, Memᴰ}
use Rattle.model.specs.Tree.{leaf, insert}
use Rattle.model.specs.Tables.{root_at, free_at, next_at, position_at, side_at, free_of, filed_of, position_of, side_of, signature_of}
use Rattle.model.specs.Sound.{tip, Rooted, none, some, nodes_in, blocks_in, SoundAt}
use Rattle.model.specs.Stores.{Store, ◌↤◌, stores}
use Rattle.model.specs.File.{filing_stores, first_stores, file_signatures}
use Rattle.model.proofs.Members.{only}
use Rattle.model.proofs.Stores.{stored_same, stored_at}
use Rattle.tables.proofs.Trees.{tree_rooted}
use Rattle.tables.proofs.Counts.{free_same, free_range}
use Rattle.tables.proofs.After.{kept_filing, after}
use Rattle.file.proofs.Good.{Fileable, Rows, With, Good, good, not_zero, one, own_signature}

module _ {B F : ℕ} {sigs L : List ℕ} {S : SoundAt B F sigs L} {b s : ℕ} (Q : Fileable S b s) where
  abbrev ws : List Store
  ws = (next_at b ↤ 0) ∷ (root_at ↤ b) ∷ []

  abbrev all : List Store
  all = filing_stores L b ws

  abbrev L' : List ℕ
  L' = stores L all

  kept : Rows Q L'
  kept = kept_filing S b Q.from Q.to ws Q.unfiled (record {
    width = omega (arith, Q.from);
    told = omega (arith, Q.from);
    count = omega (arith, Q.from);
    filed = λ c h h'. omega arith;
    next = λ c n h h' z. omega arith;
  })

  -- the words of the free nodes stay
  free_words : (i : ℕ) → Memᴰ i S.free → (position_of B L' i ≡ position_of B L i) × (side_of B L' i 0 ≡ side_of B L i 0) × (side_of B L' i 1 ≡ side_of B L i 1)
  free_words i m =
      let r = free_range B L (free_of L) S.free S.free_holds i m in
      (stored_same L all (position_at B i) (omega (arith, Q.to)), stored_same L all (side_at B i 0) (omega (arith, Q.to)), stored_same L all (side_at B i 1) (omega (arith, Q.to)))

  made : S.tree ≡ none → With Q L' kept (some (tip b []))
  made e = after S b Q.from Q.to 1 s one Q.small (not_zero s) L' kept (some (tip b [])) (
    stored_at L (filing_stores L b ((next_at b ↤ 0) ∷ [])) root_at b [] (omega (arith, S.fits.links_long, Q.to)) tt,
    Q.from,
    Q.to,
    stored_at L (filing_stores L b []) (next_at b) 0 ((root_at ↤ b) ∷ []) (omega (arith, S.fits.links_long, Q.to)) (omega arith),
  )
      (tt, λ c m. let x = only b c (Memᴰ.cases_cons m) in (ap (filed_of L') x ∙ kept.filed_own, ap (signature_of (file_signatures sigs b s)) x))
      (λ c n m. absurd (Memᴰ.not-nil (subst (λ (t : Rooted). Memᴰ c (blocks_in t)) e m)))
      (λ _. Memᴰ.head refl)
      S.free
      (free_same B L L' (free_of L) (free_of L') S.free (stored_same L all free_at (omega arith)) free_words S.free_holds)
      (λ i m n. Memᴰ.not-nil n)
      (λ i h h'. inr (rest i (S.free_all i h h')))
    where
      rest : (i : ℕ) → Memᴰ i (nodes_in S.tree) ⊎ Memᴰ i S.free → Memᴰ i S.free
      rest i (inl m) = absurd (Memᴰ.not-nil (subst (λ (t : Rooted). Memᴰ i (nodes_in t)) e m))
      rest i (inr m) = m

  pub first_good : S.tree ≡ none → Good Q (stores L (first_stores L b))
  unfolding insert
  first_good e = good Q L' kept (some (tip b [])) (made e) (ap leaf (own_signature Q) ∙ sym (ap (λ (t : Rooted). insert F s (tree_rooted sigs t)) e))
