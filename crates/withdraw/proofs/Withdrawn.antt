-- Withdrawing a filed block of sound tables: they stay sound, their plain tree stays while another filed block has the signature and
-- loses its leaf otherwise, their ledger loses the pair, and every other row and signature is as before. The walk by the block's own
-- signature ends at its chain; each of the four ways that the chain may stand is proved by itself, and here they meet.
-- Assumes nothing.
use Prim.Native.Nat.{ℕ, ◌-◌, ◌≤◌}
use native.Mathlib.Decide.{ℕ_discrete}
use native.Mathlib.Omega.{arith}
use mathlib.Core.Path.{◌≡◌, refl, sym, subst, ◌∙◌, ap}
use mathlib.Core.Logic.{◌⊎◌, inl, inr, ◌≢◌}
use mathlib.Core.List.Memᴰ
use mathlib.Core.List.{List, [], ◌∷◌, Memᴰ}
use lib.ListN.{length, length-set, set, replicate, length-replicate}
use borrow.Author.Tests.{eq-eqb, ne_eqb, le-leb, lt-leb}
use Rattle.model.specs.Wide.{word_count, number_in}
use Rattle.model.specs.Tree.{remove}
use Rattle.model.specs.Tables.{word, root_at, width_of, root_of, next_of, filed_of, signature_of, tree_of, signatures_of}
use Rattle.model.specs.Sound.{Shape, tip, Rooted, none, some, Holds, blocks_in, SoundAt, Sound, SoundLent}
use Rattle.model.specs.Stores.{stores}
use Rattle.model.specs.File.{spot_of}
use Rattle.model.specs.Withdraw.{parent_of, withdraw_stores, withdraw_signatures, withdraw_links, withdraw_words}
use Rattle.model.specs.Questions.{withdraw}
use Rattle.model.specs.Ledger.{unfiled, ledger_of, entered}
use Rattle.model.proofs.Wide.{number_zeros}
use Rattle.tables.proofs.Numbers.{set_spelt, set_lent}
use Rattle.tables.proofs.Trees.{depth_root}
use Rattle.tables.proofs.Sides.{forked, edge_small, sides_held}
use Rattle.tables.proofs.Ways.{Way, Reached, reach, spot, part_holds, found, spot_from_spot}
use Rattle.tables.proofs.After.{signature_own, Old, old}
use Rattle.tables.proofs.Entries.{entry_unfiled, ledger_set}
use Rattle.tables.proofs.Distinct.{chain_short}
use Rattle.withdraw.proofs.Cut.{block_before_is}
use Rattle.withdraw.proofs.Over.{Over, over, node_reference, parent_from_spot}
use Rattle.withdraw.proofs.Withdrawing.{Another, Leaves, others, head_leaves, later_leaves}
use Rattle.withdraw.proofs.Raising.{raise, last}

module _ {B F : ℕ} {sigs L : List ℕ} (S : SoundAt B F sigs L) (b : ℕ) (b1 : 1 ≤ b) (bB : b ≤ B) (filed : filed_of L b ≡ 1) where
  abbrev s : ℕ
  s = signature_of sigs b

  -- the links after the definition's stores, where the walk ends at address at, at the chain with head h
  abbrev Stored : ℕ → ℕ → Type 0
  Stored at h = Leaves S b b1 bB filed (stores L (withdraw_stores B F L b s at h (parent_of B F L s)))

  module _ (t : Shape) (is_t : S.tree ≡ some t) where
    O : Old S t
    O = old S t is_t

    -- b is alone on its chain: no other block has the signature
    module _ (w : Way F s (tip b []) t) where
      alone : (c : ℕ) → Another S b b1 bB filed c → ⊥
      alone c x = go (Memᴰ.cases_cons (found sigs L [] w O.placed c (O.chained c x.1 x.2 x.3) x.4))
        where
          go : (c ≡ b) ⊎ Memᴰ c [] → ⊥
          go (inl e) = x.0 e
          go (inr m) = Memᴰ.not-nil m

      ends : next_of L b ≡ 0
      ends = (part_holds B L root_at w O.holds).3

      whole : t ≡ tip b [] → Stored (spot B root_at w) b
      unfolding withdraw_stores
      whole e =
          let r = subst (Holds B L (root_of L)) e O.holds in
          rw (eq-eqb b b refl, withdraw_stores, eq-eqb (next_of L b) 0 ends, le-leb (root_of L) B (omega (arith, r.0))) (last S b b1 bB filed t is_t alone e)

      module _ (P : Over F s (tip b []) t) where
        i : ℕ
        i = P.number

        up : ℕ
        up = spot B root_at P.way

        held : Holds B L (word L up) (forked P.side i P.position (tip b []) P.sibling)
        unfolding i up
        held = part_holds B L root_at P.way O.holds

        parent_is : parent_of B F L s ≡ up
        unfolding i up
        parent_is =
            let q = (sides_held B L P.side i P.position (tip b []) P.sibling (word L up) (edge_small F s P.position P.bit) held).0 in
            parent_from_spot B L P.side (tip b []) P.sibling P.way F root_at P.bit O.holds (depth_root F sigs L t O.placed) (omega (arith, q.0))

        below : Stored (spot B root_at w) b
        unfolding withdraw_stores i up
        below =
            let n : word L up - B ≡ i = omega (arith, held.0) in
            rw (eq-eqb b b refl, withdraw_stores, eq-eqb (next_of L b) 0 ends, lt-leb (root_of L) B (node_reference B L P.side (tip b []) P.sibling (root_of L) P.way O.holds), parent_is, n, held.3, P.bit)
            (raise S b b1 bB filed t is_t alone i P.position P.side P.sibling P.bit P.way)

      single : Stored (spot B root_at w) b
      single = go (over w)
        where
          go : (t ≡ tip b []) ⊎ Over F s (tip b []) t → Stored (spot B root_at w) b
          go (inl e) = whole e
          go (inr P) = below P

    -- b is the head
    at_head : (cs : List ℕ) (w : Way F s (tip b cs) t) → Stored (spot B root_at w) b
    unfolding withdraw_stores
    at_head [] w = single w
    at_head (c ∷ cs) w =
        let r = (part_holds B L root_at w O.holds).3 in
        let a = r.0 in
        let d = r.1 in
        rw (eq-eqb b b refl, withdraw_stores, ne_eqb (next_of L b) 0 (omega arith)) (head_leaves S b b1 bB filed t is_t c cs w)

    in_tree : (R : Reached F s t) → Stored (spot B root_at R.to) (word L (spot B root_at R.to))
    unfolding withdraw_stores
    in_tree R = rw (part_holds B L root_at R.to O.holds).0 (go (ℕ_discrete R.head b) (Memᴰ.cases_cons (found sigs L [] R.to O.placed b (O.chained b b1 bB filed) refl)))
      where
        later : R.head ≢ b → Memᴰ b R.others → Stored (spot B root_at R.to) R.head
        later n m =
            let c = (part_holds B L root_at R.to O.holds).3 in
            rw (ne_eqb R.head b n, withdraw_stores, block_before_is B L R.head b R.others m B c (chain_short B L R.head R.others c)) (later_leaves S b b1 bB filed t is_t R.to m)

        go : Dec (R.head ≡ b) → (b ≡ R.head) ⊎ Memᴰ b R.others → Stored (spot B root_at R.to) R.head
        go (yes e) m = subst (λ (y : ℕ). (w : Way F s (tip y R.others) t) → Stored (spot B root_at w) y) (sym e) (at_head R.others) R.to
        go (no n) (inl e) = absurd (n (sym e))
        go (no n) (inr m) = later n m

  withdrawn : Stored (spot_of B F L s) (word L (spot_of B F L s))
  withdrawn = go S.tree refl
    where
      go : (t : Rooted) → S.tree ≡ t → Stored (spot_of B F L s) (word L (spot_of B F L s))
      go none e = absurd (Memᴰ.not-nil (subst (λ (x : Rooted). Memᴰ b (blocks_in x)) e (S.on_chain b b1 bB filed)))
      go (some t) e =
          let O = old S t e in
          let R = reach F s t in
          rw (spot_from_spot B L R.to F root_at O.holds (depth_root F sigs L t O.placed)) (in_tree t e R)

module _ {sigs links : List ℕ} (S : Sound sigs links) (b : ℕ) (b1 : 1 ≤ b) (bB : b ≤ length sigs) (filed : filed_of links b ≡ 1) where
  left : Leaves S b b1 bB filed (withdraw_links sigs links b)
  unfolding withdraw_links
  left = withdrawn S b b1 bB filed

  pub withdraw_sound : Sound (withdraw_signatures sigs b) (withdraw_links sigs links b)
  withdraw_sound = rw (left.sound.fits.sigs_long, left.sound.fits.width_word) left.sound

  -- while another filed block has the signature the plain tree stays
  pub withdraw_stays : (c : ℕ) → Another S b b1 bB filed c → tree_of (withdraw_signatures sigs b) (withdraw_links sigs links b) ≡ tree_of sigs links
  withdraw_stays c x = rw (left.sound.fits.sigs_long, left.sound.fits.width_word) (left.stays c x)

  -- otherwise its leaf is taken away
  pub withdraw_loses : ((c : ℕ) → Another S b b1 bB filed c → ⊥) → tree_of (withdraw_signatures sigs b) (withdraw_links sigs links b) ≡ remove (width_of links) (signature_of sigs b) (tree_of sigs links)
  withdraw_loses n = rw (left.sound.fits.sigs_long, left.sound.fits.width_word) (left.loses n)

  -- the lengths and the width stay
  pub withdraw_lengths : (length (withdraw_signatures sigs b) ≡ length sigs) × (length (withdraw_links sigs links b) ≡ length links) × (width_of (withdraw_links sigs links b) ≡ width_of links)
  withdraw_lengths = (length-set sigs (b - 1) 0, left.kept.long, left.kept.width)

  -- the block's own row and signature, and every other's
  pub withdraw_own : (filed_of (withdraw_links sigs links b) b ≡ 0) × (next_of (withdraw_links sigs links b) b ≡ 0) × (signature_of (withdraw_signatures sigs b) b ≡ 0)
  withdraw_own = (left.kept.filed_own, left.kept.next_own refl, signature_own sigs b 0 b1 bB)

  pub withdraw_others : (c : ℕ) → c ≢ b → 1 ≤ c → c ≤ length sigs
      → (filed_of (withdraw_links sigs links b) c ≡ filed_of links c) × (signature_of (withdraw_signatures sigs b) c ≡ signature_of sigs c)
  withdraw_others c n h h' = (left.kept.filed_same c n h h', others S b b1 bB filed c h n)

  pub withdraw_ledger : ledger_of (withdraw_signatures sigs b) (withdraw_links sigs links b) ≡ entered (ledger_of sigs links) (withdraw b)
  withdraw_ledger = ledger_set sigs links (withdraw_signatures sigs b) (withdraw_links sigs links b) b unfiled b1 bB (length-set sigs (b - 1) 0) left.kept.width
      (entry_unfiled (withdraw_signatures sigs b) (withdraw_links sigs links b) b withdraw_own.0) withdraw_others

-- the same of the tables as they are lent: the words spell the signatures, and are sound
module _ (words links : List ℕ) (S : SoundLent words links) (b : ℕ) (b1 : 1 ≤ b) (bB : b ≤ length (signatures_of words links)) (filed : filed_of links b ≡ 1) where
  abbrev after : List ℕ
  after = withdraw_links (signatures_of words links) links b

  abbrev zeros : List ℕ
  zeros = replicate (word_count (width_of links)) 0

  stays : (length after ≡ length links) × (width_of after ≡ width_of links)
  stays = let l = withdraw_lengths S.sound b b1 bB filed in (l.1, l.2)

  zero : number_in zeros ≡ 0
  zero = number_zeros (word_count (width_of links))

  pub withdraw_spelt : signatures_of (withdraw_words words links b) after ≡ withdraw_signatures (signatures_of words links) b
  withdraw_spelt =
      set_spelt words links after b zeros S b1 bB (length-replicate (word_count (width_of links)) 0) stays.0 stays.1
      ∙ ap (set (signatures_of words links) (b - 1)) zero

  pub withdraw_lent : SoundLent (withdraw_words words links b) after
  withdraw_lent =
      set_lent words links after b zeros S b1 bB (length-replicate (word_count (width_of links)) 0) stays.0 stays.1
      (rw zero (withdraw_sound S.sound b b1 bB filed))
