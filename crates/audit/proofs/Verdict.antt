-- The audit's yes is soundness, both ways, so soundness is decided. Where the test says yes, the tree, its chains and the free chain
-- are built from the walk, and that nothing is left out follows by counting. On sound tables what is lent suffices, since nothing
-- stands twice.
-- Assumes nothing.
use Prim.Native.Nat.{ℕ, ◌+◌, ◌-◌, ◌*◌, ◌≤◌}
use native.Mathlib.Omega.{arith}
use mathlib.Core.Path.{◌≡◌, refl, sym, ◌∙◌, ap, subst}
use mathlib.Core.Logic.{◌⊎◌, inl, inr, ◌↔◌}
use mathlib.Core.Bool.{Bool, true, false}
use mathlib.Core.List.Memᴰ
use mathlib.Core.List.{List, ◌++◌, Memᴰ}
use lib.Dec.{eqb}
use lib.ListN.{length, length-append}
use borrow.Author.Tests.{eq-eqb, eqb-true}
use Rattle.std.specs.Prelude.{Option, None, Some}
use Rattle.model.specs.Wide.{word_count}
use Rattle.model.specs.Tables.{blocks_of, signatures_of, width_of, free_of, count_of, filed_of}
use Rattle.model.specs.Sound.{nodes_in, blocks_in, filed_up_to, Sound, FitsAt, SoundLent}
use Rattle.model.specs.Questions.{asks_tables, tables_fit, ask, audit_refusal}
use Rattle.model.specs.Promises.{unsound, AuditPromise}
use Rattle.model.proofs.Pigeon.{distinct_fits, down_from, down_from_length, down_from_range, down_from_has, down_from_distinct}
use Rattle.model.proofs.Members.{full}
use Rattle.model.proofs.Wide.{signatures_length}
use Rattle.tables.specs.Fits.{FitsUnpacked}
use Rattle.model.proofs.Packing.{blocks_told}
use Rattle.tables.proofs.Fits.{fits_of, true_fits}
use Rattle.audit.specs.declared.walk.Lent.{Lent}
use Rattle.audit.specs.Audit.{rows_ok, tree_twin, free_twin, lent_tree, rest_ok, soundb, audit_twin}
use Rattle.model.proofs.Picks.{no_bool, pick_true}
use Rattle.audit.proofs.RowLaws.{rows_yes, rows_whole}
use Rattle.audit.proofs.FreeLaws.{free_yes, free_whole}
use Rattle.audit.proofs.Counting.{filed_list, filed_length, filed_in, filed_has, filed_distinct}
use Rattle.audit.proofs.Apart.{tree_blocks_distinct, tree_blocks_filed, apart, all_distinct, all_range}
use Rattle.audit.proofs.WalkYes.{tree_yes}
use Rattle.audit.proofs.WalkWhole.{tree_whole}

-- a tree that leaves no blocks, and as many nodes as are free
record RestYes (L : List ℕ) (B : ℕ) (w : Option Lent) : Type 0 where
  left : Lent
  is : w ≡ Some left
  blocks : left.blocks ≡ 0
  free : free_twin left.nodes L B (free_of L) ≡ true

rest_yes : (L : List ℕ) (B : ℕ) (w : Option Lent) → rest_ok L B w ≡ true → RestYes L B w
rest_yes L B None e = no_bool e
rest_yes L B (Some left) e =
    let p = pick_true (eqb left.blocks 0) _ e in
    record { left = left; is = refl; blocks = eqb-true _ _ p.0; free = p.1 }

-- the test says yes on tables that fit: they are sound
pub yes_sound : (S L : List ℕ) → FitsAt (length S) (width_of L) S L → soundb S L ≡ true → Sound S L
unfolding soundb
yes_sound S L fit e =
    let B : ℕ = length S in
    let F : ℕ = width_of L in
    let p1 = pick_true (rows_ok S L (length S)) _ e in
    let p2 = pick_true (eqb (count_of L) (filed_up_to L (length S))) _ p1.1 in
    let w = rest_yes L (length S) (tree_twin S L (lent_tree S L)) p2.1 in
    let rows = rows_yes S L (length S) p1.0 in
    let count : count_of L ≡ filed_up_to L (length S) = eqb-true _ _ p2.0 in
    let g = tree_yes S L (lent_tree S L) w.left w.is in
    let fr = free_yes L (length S) w.left.nodes (free_of L) w.free in
    let bits : (b : ℕ) → 1 ≤ b → b ≤ length S → filed_of L b ≤ 1 = λ b h k. (rows b h k).bit in
    record {
      fits = fit;
      tree = g.tree;
      holds = g.holds;
      placed = g.placed;
      filed_bit = bits;
      on_chain = λ b h k f.
          full (blocks_in g.tree) (filed_list L B) (tree_blocks_distinct B F S L g.tree g.holds g.placed)
          (tree_blocks_filed B F S L g.tree g.holds g.placed)
          (omega (arith, filed_length L B bits, g.blocks_used)) b (filed_has L B b h k f);
      counted = count;
      blank = λ b h k z. (rows b h k).blank z;
      narrow = λ b h k. (rows b h k).narrow;
      free = fr.list;
      free_holds = fr.chain;
      free_outside = λ i m n. apart B F S L g.tree g.holds g.placed fr.list fr.chain i n m;
      free_all = λ i h k.
          Memᴰ.append_cases (nodes_in g.tree)
          (full (nodes_in g.tree ++ fr.list) (down_from (B - 1)) (all_distinct B F S L g.tree g.holds g.placed fr.list fr.chain)
          (all_range B F S L g.tree g.holds g.placed fr.list fr.chain)
          (omega (arith, length-append (nodes_in g.tree) fr.list, down_from_length (B - 1), fr.long, g.nodes_used)) i (down_from_has (B - 1) i h (omega arith)));
    }

-- sound tables: the test says yes
pub sound_yes : (S L : List ℕ) → Sound S L → soundb S L ≡ true
unfolding soundb
sound_yes S L s =
    let B : ℕ = length S in
    let F : ℕ = width_of L in
    let t = s.tree in
    let rows = rows_whole S L B (λ b h k. record { narrow = s.narrow b h k; bit = s.filed_bit b h k; blank = s.blank b h k }) in
    let filed = filed_length L B s.filed_bit in
    let few = distinct_fits (blocks_in t) (filed_list L B) (tree_blocks_distinct B F S L t s.holds s.placed) (tree_blocks_filed B F S L t s.holds s.placed) in
    let many = distinct_fits (filed_list L B) (blocks_in t) (filed_distinct L B) (λ b m. let g = filed_in L B b m in s.on_chain b g.0 g.1 g.2) in
    let fewer = distinct_fits (nodes_in t ++ s.free) (down_from (B - 1)) (all_distinct B F S L t s.holds s.placed s.free s.free_holds) (all_range B F S L t s.holds s.placed s.free s.free_holds) in
    let all = distinct_fits (down_from (B - 1)) (nodes_in t ++ s.free) (down_from_distinct (B - 1)) (λ i m. let g = down_from_range (B - 1) i m in let h = g.1 in let o = g.0 in either i (s.free_all i o (omega arith))) in
    let split = length-append (nodes_in t) s.free in
    let range = down_from_length (B - 1) in
    let count = s.counted in
    let hn : B - 1 ≡ length (nodes_in t) + length s.free = omega arith in
    let hb : count_of L ≡ length (blocks_in t) + 0 = omega arith in
    rw (rows, soundb, eq-eqb _ _ s.counted, tree_whole S L t (B - 1) (count_of L) (length s.free) 0 s.holds s.placed hn hb)
    (free_whole L B (length s.free) (free_of L) s.free s.free_holds refl)
  where
    either : (i : ℕ) → Memᴰ i (nodes_in s.tree) ⊎ Memᴰ i s.free → Memᴰ i (nodes_in s.tree ++ s.free)
    either i (inl m) = Memᴰ.append_left s.free m
    either i (inr m) = Memᴰ.append_right (nodes_in s.tree) m

-- of the words as they are lent: what they spell fits, so they are sound where that is
sound_lent : (sigs words L : List ℕ) → FitsUnpacked sigs words L → soundb sigs L ≡ true → SoundLent words L
sound_lent sigs words L A e = record {
  long = A.long ∙ ap (λ (n : ℕ). n * word_count (width_of L)) (sym (blocks_told L (length sigs) A.fits.links_long));
  sound = subst (λ (s : List ℕ). Sound s L) A.spelt (yes_sound sigs L A.fits e);
}

lent_sound : (sigs words L : List ℕ) → FitsUnpacked sigs words L → SoundLent words L → soundb sigs L ≡ true
lent_sound sigs words L A s = sound_yes sigs L (subst (λ (s : List ℕ). Sound s L) (sym A.spelt) s.sound)

module _ (words L : List ℕ) where
  -- the signatures that the words spell
  abbrev S : List ℕ
  S = signatures_of words L

  -- sound tables fit
  pub sound_fits : SoundLent words L → tables_fit (asks_tables words L) ≡ true
  sound_fits s =
      (fits_of words L).1 (record {
        fits = s.sound.fits;
        spelt = refl;
        long = s.long ∙ ap (λ (n : ℕ). n * word_count (width_of L)) (sym (signatures_length (word_count (width_of L)) (blocks_of L) words));
      })

  fits : tables_fit (asks_tables words L) ≡ true → FitsUnpacked (signatures_of words L) words L
  fits e = (fits_of words L).0 e

  -- what the audit answers
  pub refused : tables_fit (asks_tables words L) ≡ false → audit_twin words L ≡ 4
  unfolding audit_twin
  refused e = simp e

  found_sound : tables_fit (asks_tables words L) ≡ true → soundb S L ≡ true → audit_twin words L ≡ 0
  unfolding audit_twin
  found_sound e f = simp (e, f)

  found_unsound : tables_fit (asks_tables words L) ≡ true → soundb S L ≡ false → audit_twin words L ≡ unsound
  unfolding audit_twin
  found_unsound e f = simp (e, f)

  -- question 4 is the only one before 11
  asked : tables_fit (asks_tables words L) ≡ true → audit_refusal (asks_tables words L) ≡ 0
  unfolding audit_refusal ask
  asked f = rw f

  -- soundness is decided
  pub decide_sound : Dec (SoundLent words L)
  decide_sound = go (tables_fit (asks_tables words L)) refl (soundb S L) refl
    where
      go : (f : Bool) → tables_fit (asks_tables words L) ≡ f → (s : Bool) → soundb S L ≡ s → Dec (SoundLent words L)
      go true e true q = yes (sound_lent S words L (fits e) q)
      go true e false q = no (λ x. no_bool (sym q ∙ sound_yes S L x.sound))
      go false e s q = no (λ x. no_bool (sym e ∙ sound_fits x))

  -- the audit says 0 exactly of sound tables
  pub audit_sound : (audit_twin words L ≡ 0) ↔ SoundLent words L
  audit_sound = (go (tables_fit (asks_tables words L)) refl (soundb S L) refl, λ x. found_sound (sound_fits x) (sound_yes S L x.sound))
    where
      go : (f : Bool) → tables_fit (asks_tables words L) ≡ f → (s : Bool) → soundb S L ≡ s → audit_twin words L ≡ 0 → SoundLent words L
      go true e true q z = sound_lent S words L (fits e) q
      go true e false q z = absurd (omega (arith, found_unsound e q))
      go false e s q z = absurd (omega (arith, refused e))

  -- question 11 alone, of tables of which question 4 says yes
  module _ (sigs : List ℕ) (A : FitsUnpacked sigs words L) where
    pub told_sound : soundb sigs L ≡ true → AuditPromise words L 0
    told_sound e = record { refused = λ x. absurd (x (asked (true_fits words L sigs A))); asked = λ x. inl (refl, sound_lent sigs words L A e) }

    pub told_unsound : soundb sigs L ≡ false → AuditPromise words L unsound
    told_unsound e = record { refused = λ x. absurd (x (asked (true_fits words L sigs A))); asked = λ x. inr (refl, λ s. no_bool (sym e ∙ lent_sound sigs words L A s)) }

  -- and keeps its promise
  pub promised : AuditPromise words L (audit_twin words L)
  unfolding audit_refusal ask
  promised = go (tables_fit (asks_tables words L)) refl (soundb S L) refl
    where
      go : (f : Bool) → tables_fit (asks_tables words L) ≡ f → (s : Bool) → soundb S L ≡ s → AuditPromise words L (audit_twin words L)
      go false e s q =
          let four : audit_refusal (asks_tables words L) ≡ 4 = rw e in
          record { refused = λ x. refused e ∙ sym four; asked = λ x. absurd (omega arith) }
      go true e true q = rw (found_sound e q) (told_sound S (fits e) q)
      go true e false q = rw (found_unsound e q) (told_unsound S (fits e) q)
