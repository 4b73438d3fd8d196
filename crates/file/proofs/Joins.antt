-- Filing a signature that is stored: the block goes directly after the head of the chain that the signature's bits lead to. Only two
-- next words change, so the tree is as before with one longer chain.
-- Assumes nothing.
use Prim.Native.Nat.{ℕ, ◌+◌, ◌*◌, ◌≤◌, ◌<◌}
use native.Mathlib.Decide.{ℕ_discrete}
use native.Mathlib.Omega.{arith}
use mathlib.Core.Path.{◌≡◌, refl, sym, ◌∙◌, ap, subst}
use mathlib.Core.Logic.{◌⊎◌, inl, inr, ◌≢◌}
use mathlib.Core.List.Memᴰ
use mathlib.Core.List.{List, [], ◌∷◌, Memᴰ}
use Rattle.model.specs.Tree.{leaf, Agrees}
use Rattle.model.specs.Tables.{word, root_at, free_at, next_at, position_at, side_at, free_of, next_of, filed_of, position_of, side_of, signature_of}
use Rattle.model.specs.Sound.{Shape, tip, some, Holds, Placed, nodes, blocks, SoundAt}
use Rattle.model.specs.Stores.{Store, ◌↤◌, stores}
use Rattle.model.specs.File.{filing_stores, chain_stores, file_signatures}
use Rattle.model.proofs.Stores.{stored_same, stored_at}
use Rattle.model.proofs.Insert.{insert_same}
use Rattle.tables.proofs.Shapes.{chain_move, chain_no_return}
use Rattle.tables.proofs.Counts.{free_same, free_range}
use Rattle.tables.proofs.Ways.{Way, spot, replace, path_to, part_blocks, part_holds, part_placed}
use Rattle.tables.proofs.Links.{spot_link}
use Rattle.tables.proofs.Graft.{graft_nodes_old, graft_nodes_cases}
use Rattle.tables.proofs.After.{Old, old, kept_filing, after_graft}
use Rattle.file.proofs.Good.{Fileable, Rows, With, Good, good, not_zero, one, own_signature, another, same_signature, grown}

module _ {B F : ℕ} {sigs L : List ℕ} {S : SoundAt B F sigs L} {b s : ℕ} (Q : Fileable S b s) (t : Shape) (is_t : S.tree ≡ some t) (h : ℕ) (cs : List ℕ) (w : Way F s (tip h cs) t) (same : signature_of sigs h ≡ s) where
  O : Old S t
  O = old S t is_t

  head : Memᴰ h (blocks t)
  head = part_blocks w h (Memᴰ.head refl)

  -- the head is a filed block, hence another
  row : (1 ≤ h) × (h ≤ B) × (filed_of L h ≡ 1)
  row = O.filed h head

  ours : h ≢ b
  ours = another Q t is_t h head

  abbrev ws : List Store
  ws = (next_at b ↤ next_of L h) ∷ (next_at h ↤ b) ∷ []

  abbrev all : List Store
  all = filing_stores L b ws

  abbrev L' : List ℕ
  L' = stores L all

  abbrev sigs' : List ℕ
  sigs' = file_signatures sigs b s

  kept : Rows Q L'
  kept = kept_filing S b Q.from Q.to ws Q.unfiled (record {
    width = omega (arith, Q.from, row);
    told = omega (arith, Q.from, row);
    count = omega (arith, Q.from, row);
    filed = λ c x y. omega (arith, row);
    next = λ c n x y z. (omega arith, (unlike c z, tt));
  })
    where
      unlike : (c : ℕ) → filed_of L c ≡ 0 → next_at c ≢ next_at h
      unlike c z e = let x : c ≡ h = omega arith in omega (arith, ap (filed_of L) x, row)

  -- all words but the two stay
  next_word : (c : ℕ) → c ≢ b → c ≢ h → next_of L' c ≡ next_of L c
  next_word c m n = stored_same L all (next_at c) (omega arith)

  node_word_kept : (a : ℕ) → 2 * B + 4 < a → word L' a ≡ word L a
  node_word_kept a g = stored_same L all a (omega (arith, row, Q.from, Q.to))

  same_node : (j : ℕ) → 1 ≤ j → (position_of B L' j ≡ position_of B L j) × ((e : ℕ) → side_of B L' j e ≡ side_of B L j e)
  same_node j x = (node_word_kept (position_at B j) (omega arith), λ e. node_word_kept (side_at B j e) (omega arith))

  spot_word : word L' (spot B root_at w) ≡ word L (spot B root_at w)
  spot_word =
      let k = O.link (spot B root_at w) (spot_link B root_at w) in
      stored_same L all (spot B root_at w) ((k.row b Q.from Q.to).1, (k.count, ((k.row b Q.from Q.to).0, ((k.row h row.0 row.1).0, tt))))

  -- the longer chain
  chained : Holds B L' (word L' (spot B root_at w)) (tip h (b ∷ cs))
  chained =
      let q = part_holds B L root_at w O.holds in (
        spot_word ∙ q.0,
        row.0,
        row.1,
        (
          stored_at L (filing_stores L b ((next_at b ↤ next_of L h) ∷ [])) (next_at h) b [] (omega (arith, row, S.fits.links_long)) tt,
          Q.from,
          Q.to,
          chain_move B L L' h b cs
              (stored_at L (filing_stores L b []) (next_at b) (next_of L h) ((next_at h ↤ b) ∷ []) (omega (arith, S.fits.links_long, Q.to)) (omega (arith, ours)))
              (λ c m. next_word c (another Q t is_t c (part_blocks w c (Memᴰ.tail m))) (λ e. chain_no_return B L h cs q.3 (Memᴰ.cast (sym e) m)))
              q.3,
        ),
      )

  placed : Placed F sigs' L' (path_to [] w) (tip h (b ∷ cs))
  placed = (subst (λ (x : ℕ). Agrees F x (path_to [] w)) (sym (same_signature Q t is_t h head)) pl.0, λ c m. go c (ℕ_discrete c b) m)
    where
      pl : Placed F sigs L (path_to [] w) (tip h cs)
      pl = part_placed sigs L [] w O.placed

      was : (c : ℕ) → c ≢ b → Memᴰ c (h ∷ cs) → (filed_of L' c ≡ 1) × (signature_of sigs' c ≡ signature_of sigs' h)
      was c n m =
          let o = O.filed c (part_blocks w c m) in
          (kept.filed_same c n o.0 o.1 ∙ o.2, same_signature Q t is_t c (part_blocks w c m) ∙ (pl.1 c m).1 ∙ sym (same_signature Q t is_t h head))

      old_one : (c : ℕ) → c ≢ b → (c ≡ h) ⊎ Memᴰ c (b ∷ cs) → Memᴰ c (h ∷ cs)
      old_one c n (inl e) = Memᴰ.head e
      old_one c n (inr m) = Memᴰ.tail (late (Memᴰ.cases_cons m))
        where
          late : (c ≡ b) ⊎ Memᴰ c cs → Memᴰ c cs
          late (inl e) = absurd (n e)
          late (inr k) = k

      go : (c : ℕ) → Dec (c ≡ b) → Memᴰ c (h ∷ b ∷ cs) → (filed_of L' c ≡ 1) × (signature_of sigs' c ≡ signature_of sigs' h)
      go c (yes e) m = (ap (filed_of L') e ∙ kept.filed_own, ap (signature_of sigs') e ∙ own_signature Q ∙ sym same ∙ sym (same_signature Q t is_t h head))
      go c (no n) m = was c n (old_one c n (Memᴰ.cases_cons m))

  longer : (c : ℕ) → (c ≡ h) ⊎ Memᴰ c cs → Memᴰ c (h ∷ b ∷ cs)
  longer c (inl e) = Memᴰ.head e
  longer c (inr m) = Memᴰ.tail (Memᴰ.tail m)

  made : With Q L' kept (some (replace w (tip h (b ∷ cs))))
  made = after_graft S b Q.from Q.to 1 s one Q.small (not_zero s) L' kept t is_t w (tip h (b ∷ cs))
      (λ c m n. another Q t is_t c m)
      (λ _. stored_same L all root_at (omega (arith, row, Q.from)))
      (λ c m n. next_word c (another Q t is_t c m) (λ e. n (Memᴰ.head e)))
      (λ j m n. let k = same_node j (O.node j m).0 in (k.0, λ e _ _. k.1 e))
      chained placed
      (λ c n m. longer c (Memᴰ.cases_cons m))
      (λ _. Memᴰ.tail (Memᴰ.head refl))
      S.free
      (free_same B L L' (free_of L) (free_of L') S.free (stored_same L all free_at (omega (arith, row, Q.from)))
      (λ i m. let k = same_node i (free_range B L (free_of L) S.free S.free_holds i m).0 in (k.0, k.1 0, k.1 1)) S.free_holds)
      (λ i m n. apart i m (graft_nodes_cases w (tip h (b ∷ cs)) i n))
      (λ i x y. stays i (O.all i x y))
    where
      apart : (i : ℕ) → Memᴰ i S.free → Memᴰ i (nodes t) ⊎ Memᴰ i [] → ⊥
      apart i m (inl n) = O.outside i m n
      apart i m (inr n) = Memᴰ.not-nil n

      in_tree : (i : ℕ) → Memᴰ i (nodes (replace w (tip h (b ∷ cs)))) ⊎ Memᴰ i [] → Memᴰ i (nodes (replace w (tip h (b ∷ cs))))
      in_tree i (inl m) = m
      in_tree i (inr m) = absurd (Memᴰ.not-nil m)

      stays : (i : ℕ) → Memᴰ i (nodes t) ⊎ Memᴰ i S.free → Memᴰ i (nodes (replace w (tip h (b ∷ cs)))) ⊎ Memᴰ i S.free
      stays i (inl m) = inl (in_tree i (graft_nodes_old w (tip h (b ∷ cs)) i m))
      stays i (inr m) = inr m

  pub join_good : Good Q (stores L (chain_stores L b h))
  join_good = good Q L' kept (some (replace w (tip h (b ∷ cs)))) made (grown Q t is_t w (tip h (b ∷ cs)) (ap leaf (same_signature Q t is_t h head) ∙ sym (insert_same F s (signature_of sigs h) same)))
