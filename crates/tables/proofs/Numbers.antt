-- Tables as they are lent, after one block's words were set and the links kept their length and their width: the words spell the
-- signatures with that one number changed, so what is sound of the numbers is sound of the words.
-- Assumes nothing.
use Prim.Native.Nat.{ℕ, ◌-◌, ◌*◌, ◌/◌, ◌≤◌}
use native.Mathlib.Nat.{mul-le-mul_right, le_refl}
use native.Mathlib.Omega.{arith}
use mathlib.Core.Path.{◌≡◌, sym, ap, ap₂, ◌∙◌}
use mathlib.Core.List.{List}
use lib.ListN.{length, set}
use Rattle.model.specs.Wide.{word_count, number_in, signatures_in, set_words}
use Rattle.model.specs.Tables.{blocks_of, signatures_of, width_of}
use Rattle.model.specs.Sound.{Sound, SoundLent}
use Rattle.model.proofs.Wide.{signatures_length, set_words_length, signatures_set_words}

module _ (words links links' : List ℕ) (b : ℕ) (s : List ℕ) (S : SoundLent words links) (from : 1 ≤ b) (to : b ≤ length (signatures_of words links))
    (long : length s ≡ word_count (width_of links)) (same : length links' ≡ length links) (wide : width_of links' ≡ width_of links) where
  abbrev W : ℕ
  W = word_count (width_of links)

  count : length (signatures_of words links) ≡ blocks_of links
  count = signatures_length W (blocks_of links) words

  blocks : blocks_of links' ≡ blocks_of links
  blocks = ap (λ (n : ℕ). (n - 2) / 5) same

  inside : b * W ≤ length words
  inside =
      let h : b ≤ blocks_of links = omega (arith, count) in
      rw S.long (mul-le-mul_right W h)

  pub set_spelt : signatures_of (set_words W words b s) links' ≡ set (signatures_of words links) (b - 1) (number_in s)
  set_spelt =
      let h : b ≤ blocks_of links = omega (arith, count) in
      let l : blocks_of links * W ≤ length words = rw S.long (le_refl (blocks_of links * W)) in
      ap₂ (λ (w n : ℕ). signatures_in (word_count w) n (set_words W words b s)) wide blocks ∙ signatures_set_words W (blocks_of links) words b s long from h l

  pub set_long : length (set_words W words b s) ≡ length words
  set_long = set_words_length W words b s long from inside

  pub set_lent : Sound (set (signatures_of words links) (b - 1) (number_in s)) links' → SoundLent (set_words W words b s) links'
  set_lent N = record {
    long = set_long ∙ S.long ∙ ap₂ (λ (n w : ℕ). n * word_count w) (sym blocks) (sym wide);
    sound = rw set_spelt N;
  }
