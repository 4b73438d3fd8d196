-- There and back: tables that were packed and are unpacked again are what they were, and so are tables that were unpacked and are packed
-- again. Both are said of the calls: the second one is not refused, and its target holds the first one's words.
-- Assumes nothing.
use Prim.Native.Nat.{ℕ, ◌-◌, ◌≤◌}
use native.Mathlib.Omega.{arith}
use mathlib.Core.Path.{◌≡◌, refl, ◌∙◌, ap, ap₂, subst}
use mathlib.Core.Logic.{⊎_elim}
use mathlib.Core.Bool.{Bool, true, false}
use mathlib.Core.List.{List}
use lib.ListN.{length}
use lib.Seq.{length-take-le}
use borrow.Author.Tests.{eq-eqb}
use Rattle.model.specs.Limits.{most_blocks}
use Rattle.model.specs.Wide.{word_count}
use Rattle.model.specs.Tables.{links_of, blocks_of, width_of, signatures_of}
use Rattle.model.specs.Sound.{SoundLent}
use Rattle.model.specs.Packed.{rows_of, packed_blocks, Packs, unpacked, packed_links, packed_nodes}
use Rattle.model.specs.Questions.{asks_tables, ask, audit_refusal}
use Rattle.model.specs.Promises.{AuditPromise}
use Rattle.model.specs.PackedPromises.{packed_fit, pack_fits, unpack_fits, PackPromise, UnpackPromise}
use Rattle.model.proofs.Asking.{both}
use Rattle.model.proofs.Wide.{signatures_length}
use Rattle.model.proofs.Packing.{packed_links_is, packed_nodes_is, packed_told, packs_fit, fit_packs, fit_told}
use Rattle.audit.proofs.Verdict.{sound_fits}
use Rattle.convert.proofs.Fitting.{pack_unpack, nodes_long}
use Rattle.convert.proofs.Closing.{audit_yes}

module _ (words L : List ℕ) (S : SoundLent words L) where
  abbrev B : ℕ
  B = blocks_of L

  count : length (signatures_of words L) ≡ blocks_of L
  count = signatures_length (word_count (width_of L)) (blocks_of L) words

  passes : audit_refusal (asks_tables words L) ≡ 0
  unfolding audit_refusal ask
  passes = rw (sound_fits words L S)

  -- an audit of sound tables says 0
  audit_sound : (answer : ℕ) → AuditPromise words L answer → answer ≡ 0
  audit_sound answer A = ⊎_elim (λ x. x.0) (λ x. absurd (x.1 S)) (A.asked passes)

  from : 1 ≤ blocks_of L
  from = omega (arith, S.sound.fits.blocks_from, count)

  to : blocks_of L ≤ most_blocks
  to = omega (arith, S.sound.fits.blocks_to, count)

  long : length L ≡ links_of (blocks_of L)
  long = S.sound.fits.links_long ∙ ap links_of count

  -- packed slices of them fit
  packs_of : Packs (blocks_of L) (packed_links (blocks_of L) L) (packed_nodes (blocks_of L) L)
  packs_of =
      let n = nodes_long B L from long in
      let b = from in
      record { rows_long = length-take-le (rows_of B) L (omega (arith, long, from)); nodes_long = omega arith }

  fits : packed_fit (packed_links (blocks_of L) L) (packed_nodes (blocks_of L) L) ≡ true
  fits = packs_fit B _ _ from to packs_of

  -- and hold them
  held : unpacked (packed_links (blocks_of L) L) (packed_nodes (blocks_of L) L) ≡ L
  held = rw count at (pack_unpack (signatures_of words L) L S.sound)

-- what answers 0 was not refused for a length
by_length : (t : Bool) (answer : ℕ) → answer ≡ 0 → (t ≡ false → answer ≡ 4) → t ≡ true
by_length true answer z h = refl
by_length false answer z h = let e = h refl in absurd (omega arith)

-- packed, and unpacked again into any links that are as long
pub pack_then_unpack : (words old links nodes links' nodes' : List ℕ) (a : ℕ) → PackPromise words old links nodes a links' nodes' → a ≡ 0
    → (again again' : List ℕ) (b : ℕ) → length again ≡ length old → UnpackPromise words links' nodes' again b again' → (b ≡ 0) × (again' ≡ old)
pack_then_unpack words old links nodes links' nodes' a P z again again' b as_long U =
    let fit = by_length (pack_fits old links nodes) a z (λ f. (P.unfit f).0) in
    let S = audit_yes words old a (P.asked fit).0 z in
    let d = P.done z in
    let same : unpacked links' nodes' ≡ old = ap₂ unpacked d.0 d.1 ∙ held words old S in
    let t : packed_blocks (packed_links (blocks_of old) old) ≡ blocks_of old = packed_told _ _ (packs_of words old S).rows_long in
    let yes : unpack_fits links' nodes' again ≡ true = rw (d.0, d.1, fits words old S, t, eq-eqb _ _ (as_long ∙ long words old S)) in
    let e = audit_sound words old S b (subst (λ (l : List ℕ). AuditPromise words l b) same (U.asked yes).0) in
    (e, U.done e ∙ same)

-- unpacked, and packed again into any links and nodes that are as long
pub unpack_then_pack : (words links nodes old old' : List ℕ) (a : ℕ) → UnpackPromise words links nodes old a old' → a ≡ 0
    → (rows rows' again again' : List ℕ) (b : ℕ) → length rows ≡ length links → length again ≡ length nodes → PackPromise words old' rows again b rows' again' → (b ≡ 0) × (rows' ≡ links) × (again' ≡ nodes)
unpack_then_pack words links nodes old old' a U z rows rows' again again' b long_rows long_nodes P =
    let fit = by_length (unpack_fits links nodes old) a z (λ f. (U.unfit f).0) in
    let p : packed_fit links nodes ≡ true = (both {t = packed_fit links nodes} fit).0 in
    let q = fit_packs links nodes p in
    let same : old' ≡ unpacked links nodes = U.done z in
    let told : blocks_of old' ≡ packed_blocks links = ap blocks_of same ∙ fit_told links nodes p in
    let S = audit_yes words (unpacked links nodes) a (U.asked fit).0 z in
    let yes : pack_fits old' rows again ≡ true = rw (told, eq-eqb _ _ (long_rows ∙ q.rows_long), eq-eqb _ _ (nodes_told q long_nodes)) in
    let e = audit_sound words (unpacked links nodes) S b (subst (λ (l : List ℕ). AuditPromise words l b) same (P.asked yes).0) in
    let d = P.done e in (
      e,
      d.0 ∙ ap₂ packed_links told same ∙ packed_links_is (packed_blocks links) links nodes q,
      d.1 ∙ ap₂ packed_nodes told same ∙ packed_nodes_is (packed_blocks links) links nodes q,
    )
  where
    nodes_told : Packs (packed_blocks links) links nodes → length again ≡ length nodes → length again ≡ packed_blocks links - 1
    nodes_told q e = omega (arith, q.nodes_long)
