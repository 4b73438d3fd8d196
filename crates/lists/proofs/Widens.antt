-- Lists in which a clear is lent another slice exist: an index of any width is cleared to any other on a slice of the words that this
-- takes, and a clear whose slice is of another length is refused and leaves the index as it was. The same in the packed form.
-- Assumes nothing.
use Prim.Native.Nat.{ℕ, ◌*◌, ◌≤◌}
use native.Mathlib.Omega.{arith}
use mathlib.Core.Path.{◌≡◌, refl, sym, ◌∙◌, ap, subst}
use mathlib.Core.Logic.{◌≢◌}
use mathlib.Core.Bool.{true}
use mathlib.Core.List.{List, [], ◌∷◌}
use lib.ListN.{length, length-replicate}
use lib.Seq.{length-take-le}
use borrow.Author.Tests.{le-leb, ne_eqb}
use Rattle.model.specs.Limits.{most_blocks, widest}
use Rattle.model.specs.Wide.{word_count}
use Rattle.model.specs.Tables.{links_of, blocks_of}
use Rattle.model.specs.Sound.{Sound}
use Rattle.model.specs.Clear.{clear_signatures, clear_words, clear_links}
use Rattle.model.specs.Packed.{rows_of, packed_blocks, unpacked, packed_links, packed_nodes}
use Rattle.model.specs.Questions.{asks_tables, ask, clear_refusal, Work, clear}
use Rattle.model.specs.Ledger.{bare}
use Rattle.model.specs.Lists.{Gives, direct, reading, another, Step, words_after, Run}
use Rattle.model.specs.PackedPromises.{packed_fit, Stays}
use Rattle.model.specs.PackedLists.{PackedStep, PackedRun}
use Rattle.model.proofs.Packing.{long_packs, fit_range, fit_packs, fit_told}
use Rattle.tables.proofs.Fits.{lengths_fit}
use Rattle.clear.proofs.Cleared.{clear_sound}
use Rattle.convert.proofs.Fitting.{pack_unpack, nodes_long}
use Rattle.lists.proofs.Starts.{clear_passes}
use Rattle.lists.proofs.Packed.{packed_gives}

module _ (words links other : List ℕ) (W : Work) (b1 : 1 ≤ blocks_of links) (b2 : blocks_of links ≤ most_blocks) (l : length links ≡ links_of (blocks_of links))
    (F : ℕ) (f1 : 1 ≤ F) (f2 : F ≤ widest) where
  -- a clear to width F, on the other slice
  abbrev widening : Step
  widening = record {
    request = direct (clear F);
    slice = another other;
    lent = W;
    report = bare 0;
    left = record { signatures = clear_words (blocks_of links) F; links = clear_links (blocks_of links) F; work = W };
  }

  pub widens : length other ≡ blocks_of links * word_count F → Run words links (widening ∷ [])
  unfolding reading
  widens n =
      let z : clear_refusal (asks_tables other links) F ≡ 0 = clear_passes (asks_tables other links) F (lengths_fit other links b1 b2 l) f1 f2 n in
      ((record { refused = λ h. absurd (h z); done = λ _. (refl, refl, refl) }, record { counts = refl; work = refl }), (F, refl), tt)

  -- the index has the cleared slice afterwards
  pub widened : words_after words widening ≡ clear_words (blocks_of links) F
  widened = refl

  -- the same clear, refused
  abbrev refusing : Step
  refusing = record {
    request = direct (clear F);
    slice = another other;
    lent = W;
    report = bare 4;
    left = record { signatures = other; links = links; work = W };
  }

  wrong_words : length other ≢ blocks_of links * word_count F → clear_refusal (asks_tables other links) F ≡ 4
  unfolding clear_refusal ask
  wrong_words n = rw (lengths_fit other links b1 b2 l, le-leb 1 F f1, le-leb F widest f2, ne_eqb (length other) (blocks_of links * word_count F) n)

  pub refuses : length other ≢ blocks_of links * word_count F → Run words links (refusing ∷ [])
  unfolding reading
  refuses n =
      let z = wrong_words n in
      ((record { refused = λ _. (sym z, refl, refl); done = λ h. absurd (omega arith) }, record { counts = refl; work = refl }), (F, refl), tt)

  -- and the old one stays
  pub kept_slice : words_after words refusing ≡ words
  kept_slice = refl

-- the first of them, on packed tables
module _ (words links nodes other : List ℕ) (W : Work) (f : packed_fit links nodes ≡ true) (F : ℕ) (f1 : 1 ≤ F) (f2 : F ≤ widest) (n : length other ≡ packed_blocks links * word_count F) where
  abbrev B : ℕ
  B = packed_blocks links

  abbrev U : List ℕ
  U = unpacked links nodes

  abbrev made : List ℕ
  made = clear_links B F

  abbrev rows : List ℕ
  rows = packed_links B made

  abbrev rest : List ℕ
  rest = packed_nodes B made

  made_sound : Sound (clear_signatures B) made
  made_sound = clear_sound B F (fit_range links nodes f).0 (fit_range links nodes f).1 f1 f2

  count : length (clear_signatures B) ≡ B
  count = length-replicate {A = ℕ} B 0

  holds : unpacked rows rest ≡ made
  holds = rw count at (pack_unpack (clear_signatures B) made made_sound)

  abbrev widening_packed : PackedStep
  widening_packed = record { request = direct (clear F); slice = another other; lent = W; report = bare 0; left = record { signatures = clear_words B F; links = rows; nodes = rest; work = W } }

  stays : Stays 0 links nodes rows rest
  stays =
      let P = fit_packs links nodes f in
      let b : 1 ≤ B = (fit_range links nodes f).0 in
      let l : length made ≡ links_of B = made_sound.fits.links_long ∙ ap links_of count in
      let m = nodes_long B made b l in
      record {
        rows_long = length-take-le (rows_of B) made (omega arith) ∙ sym P.rows_long;
        nodes_long = omega (arith, m, P.nodes_long);
        untouched = λ z. absurd (z refl);
      }

  -- what it gives on the tables held
  cleared_held : Gives (clear F) (record { signatures = other; links = U; work = W }) (bare 0) (record { signatures = clear_words B F; links = made; work = W })
  unfolding reading
  cleared_held =
      let told = fit_told links nodes f in
      let range = fit_range links nodes f in
      let long : length U ≡ links_of (blocks_of U) = long_packs B links nodes (fit_packs links nodes f) ∙ ap links_of (sym told) in
      let own : length other ≡ blocks_of U * word_count F = n ∙ ap (λ (k : ℕ). k * word_count F) (sym told) in
      subst (λ (k : ℕ). Gives (clear F) (record { signatures = other; links = U; work = W }) (bare 0) (record { signatures = clear_words k F; links = clear_links k F; work = W })) told
      (widens words U other W (rw told range.0) (rw told range.1) long F f1 f2 own).0

  pub widens_packed : PackedRun words links nodes (widening_packed ∷ [])
  unfolding reading
  widens_packed = (
    packed_gives (clear F) (record { signatures = other; links = links; nodes = nodes; work = W }) (bare 0) widening_packed.left f
        (subst (λ (l : List ℕ). Gives (clear F) (record { signatures = other; links = U; work = W }) (bare 0) (record { signatures = clear_words B F; links = l; work = W })) (sym holds) cleared_held) stays,
    (F, refl),
    tt,
  )
