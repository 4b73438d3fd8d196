-- The promise of clear, from its question's answer: no refuses and changes nothing, yes leaves the cleared tables.
-- Assumes nothing.
use Prim.Native.Nat.{ℕ, ◌*◌}
use native.Mathlib.Omega.{arith}
use mathlib.Core.Path.{◌≡◌, refl, sym, ◌∙◌, ap}
use mathlib.Core.Bool.{Bool, true, false}
use mathlib.Core.List.{List}
use lib.Dec.{eqb}
use lib.ListN.{length, replicate}
use borrow.Author.Tests.{eqb-true}
use Rattle.model.specs.Wide.{word_count}
use Rattle.model.specs.Tables.{blocks_of}
use Rattle.model.specs.Clear.{clear_links}
use Rattle.model.specs.Questions.{ask, width_fits, asks_tables, lent_fits, clear_refusal}
use Rattle.model.specs.Promises.{ClearPromise}
use Rattle.model.specs.Packed.{packed_blocks, unpacked}
use Rattle.model.specs.PackedPromises.{packed_fit, Stays, PackedClear}
use Rattle.model.proofs.Asking.{true_false}
use Rattle.model.proofs.Packing.{fit_lengths, fit_told}

module _ (words links : List ℕ) (F : ℕ) where
  -- question 4's parts: the links' length, the width asked for, and the words lent for it
  abbrev lengths : Bool
  lengths = (asks_tables words links).lengths

  abbrev lent : Bool
  lent = lent_fits (asks_tables words links) F

  refused_by : clear_refusal (asks_tables words links) F ≡ 4 → ClearPromise words links F 4 words links
  refused_by r = record { refused = λ _. (sym r, refl, refl); done = λ z. absurd (omega arith) }

  module _ (fit : lengths ≡ true) where
    pub refuses_width : width_fits F ≡ false → ClearPromise words links F 4 words links
    unfolding clear_refusal ask
    refuses_width e = refused_by (rw (fit, e, clear_refusal))

    module _ (wide : width_fits F ≡ true) where
      pub refuses_lent : lent ≡ false → ClearPromise words links F 4 words links
      unfolding clear_refusal ask
      refuses_lent e = refused_by (rw (fit, wide, e, clear_refusal))

      -- a slice of the asked length holds the cleared words when it is all 0
      pub clears : lent ≡ true → (words' links' : List ℕ) → words' ≡ replicate (length words) 0 → links' ≡ clear_links (blocks_of links) F → ClearPromise words links F 0 words' links'
      unfolding clear_refusal ask
      clears e words' links' a b =
          let r : clear_refusal (asks_tables words links) F ≡ 0 = rw (fit, wide, e, clear_refusal) in
          let n = eqb-true (length words) (blocks_of links * word_count F) e in
          record { refused = λ z. absurd (z r); done = λ _. (refl, a ∙ ap (λ (k : ℕ). replicate k 0) n, b) }

-- the same of packed tables
module _ (words links nodes : List ℕ) (F : ℕ) where
  abbrev U : List ℕ
  U = unpacked links nodes

  stays : {answer : ℕ} → Stays answer links nodes links nodes
  stays = record { rows_long = refl; nodes_long = refl; untouched = λ _. (refl, refl) }

  pub refuses_packed : packed_fit links nodes ≡ false → PackedClear words links nodes F 4 words links nodes
  refuses_packed e = record { unfit = λ _. (refl, (refl, refl, refl)); asked = λ f. true_false f e }

  module _ (fit : packed_fit links nodes ≡ true) where
    fitted : (asks_tables words U).lengths ≡ true
    fitted = fit_lengths links nodes fit words

    refuses : ClearPromise words U F 4 words U → PackedClear words links nodes F 4 words links nodes
    refuses p = record { unfit = λ f. true_false fit f; asked = λ _. (p, stays) }

    pub refuses_packed_width : width_fits F ≡ false → PackedClear words links nodes F 4 words links nodes
    refuses_packed_width e = refuses (refuses_width words U F fitted e)

    module _ (wide : width_fits F ≡ true) where
      tell : blocks_of U ≡ packed_blocks links
      tell = fit_told links nodes fit

      pub refuses_packed_lent : eqb (length words) (packed_blocks links * word_count F) ≡ false → PackedClear words links nodes F 4 words links nodes
      refuses_packed_lent e = refuses (refuses_lent words U F fitted wide (rw tell e))

      pub clears_packed : eqb (length words) (packed_blocks links * word_count F) ≡ true → (words' links' nodes' : List ℕ) → words' ≡ replicate (length words) 0
          → unpacked links' nodes' ≡ clear_links (packed_blocks links) F → length links' ≡ length links → length nodes' ≡ length nodes → PackedClear words links nodes F 0 words' links' nodes'
      clears_packed e words' links' nodes' a b l n = record {
        unfit = λ f. true_false fit f;
        asked = λ _. (clears words U F fitted wide (rw tell e) words' (unpacked links' nodes') a (rw tell b), record { rows_long = l; nodes_long = n; untouched = λ h. absurd (h refl) });
      }
