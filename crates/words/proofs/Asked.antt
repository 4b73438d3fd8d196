-- The questions of the splitter and the signer: what each no and what all yes make of the refusal, and the promises from there.
-- Assumes nothing.
use mathlib.Core.Path.{◌≡◌, refl, sym, ap, ap₂, ◌∙◌, subst}
use mathlib.Core.Bool.{true, false, ◌&&◌}
use mathlib.Core.Logic.{◌≢◌}
use mathlib.Core.List.{List}
use Prim.Native.Nat.{ℕ, ◌-◌, ◌≤◌, ◌<◌}
use native.Mathlib.Omega.{arith}
use lib.ListN.{length}
use denote.Ref.{Bor}
use lib.Dec.{leb}
use borrow.Author.Tests.{le-leb, lt-leb, eq-eqb, ne_eqb}
use Rattle.model.specs.Wide.{word_count, AreWords, number_in, words_for}
use Rattle.model.proofs.Wide.{words_number}
use Rattle.model.specs.Questions.{width_fits, ask}
use Rattle.words.specs.Parts.{part_of}
use Rattle.model.specs.Words.{Part, end_of, longest_text, most_positions, text_signature, word_refusal, sign_refusal, IsPart, WordPromise, PlacePromise, SignPromise}

-- ---- the splitter

pub empty_part : (text : List ℕ) → part_of (length text) (length text) ≡ end_of text
empty_part text =
    let z : length text - length text ≡ 0 = omega arith in
    ap (λ (k : ℕ). record { start = length text; size = k }) z

module _ (text : List ℕ) where
  pub text_long : longest_text < length text → 12 ≡ word_refusal text
  unfolding word_refusal ask
  text_long h = simp (lt-leb (length text) longest_text h)

  pub text_fits : length text ≤ longest_text → 0 ≡ word_refusal text
  unfolding word_refusal ask
  text_fits h = simp (le-leb (length text) longest_text h)

-- the part at a promised place is the promised part
pub word_placed : (t r : Bor (List ℕ)) (n answer start size : ℕ) → PlacePromise t.now n answer start size
    → IsPart (record { start = start; size = size }) t r → WordPromise t n answer r
word_placed t r n answer start size p part =
    record {
      refused = λ f. ((p.refused f).0, subst (λ (q : Part). IsPart q t r) (p.refused f).1 part);
      done = λ e. ((p.done e).0, subst (λ (q : Part). IsPart q t r) (p.done e).1 part);
    }

-- ---- the signer

module _ (F K n : ℕ) (text : List ℕ) where
  pub no_width : F < 1 → 4 ≡ sign_refusal F K n text
  unfolding sign_refusal ask
  no_width h = simp (lt-leb 1 F h)

  pub unfit : width_fits F ≡ false → 4 ≡ sign_refusal F K n text
  unfolding sign_refusal ask
  unfit e = rw (e, sign_refusal, ask) refl

  module _ (fits : width_fits F ≡ true) where
    pub not_lent : n ≢ word_count F → 4 ≡ sign_refusal F K n text
    unfolding sign_refusal ask
    not_lent h = rw (fits, ne_eqb n (word_count F) h, sign_refusal, ask) refl

    module _ (lent : n ≡ word_count F) where
      asked : ask 12 (leb (length text) longest_text) (ask 13 (leb 1 K && leb K most_positions) 0) ≡ sign_refusal F K n text
      unfolding sign_refusal ask
      asked = rw (fits, eq-eqb n (word_count F) lent, sign_refusal, ask) refl

      pub long : longest_text < length text → 12 ≡ sign_refusal F K n text
      unfolding ask
      long h = simp (lt-leb (length text) longest_text h) at asked

      module _ (short : length text ≤ longest_text) where
        pub few : K < 1 → 13 ≡ sign_refusal F K n text
        unfolding ask
        few h = simp (le-leb (length text) longest_text short, lt-leb 1 K h) at asked

        pub many : most_positions < K → 13 ≡ sign_refusal F K n text
        unfolding ask
        many h = simp (le-leb (length text) longest_text short, le-leb 1 K (omega arith), lt-leb K most_positions h) at asked

        pub passed : 1 ≤ K → K ≤ most_positions → 0 ≡ sign_refusal F K n text
        unfolding ask
        passed p q = simp (le-leb (length text) longest_text short, le-leb 1 K p, le-leb K most_positions q) at asked

-- the promise of a signer that is lent n words, from the refusal
module _ (F K n : ℕ) (text lent : List ℕ) (long : length lent ≡ n) (answer : ℕ) (e : answer ≡ sign_refusal F K n text) where
  pub sign_done : (words : List ℕ) → answer ≡ 0 → AreWords words → length words ≡ word_count F → number_in words ≡ text_signature F K text → SignPromise F K text lent answer words
  sign_done words z h l s =
      record {
        refused = λ f. absurd (f (ap (λ (m : ℕ). sign_refusal F K m text) long ∙ sym e ∙ z));
        done = λ _. (z, sym (words_number words h) ∙ ap₂ words_for l s);
      }
