-- A word by its number: words 1 to the number of longest runs are those runs, each of them is one, and there is no other word.
-- Assumes nothing.
use mathlib.Core.Path.{◌≡◌, refl, sym}
use mathlib.Core.Logic.{◌⊎◌, inl, inr}
use mathlib.Core.List.Memᴰ
use mathlib.Core.List.{List, [], ◌∷◌, Memᴰ}
use Prim.Native.Nat.{ℕ, zero, suc, ◌≤◌, ◌<◌}
use native.Mathlib.Omega.{arith}
use lib.ListN.{length}
use Rattle.model.specs.Words.{Part, parts_of, end_of, nth, word_at}
use Rattle.words.specs.Runs.{LongestRun}
use Rattle.words.proofs.Runs.{words_are_runs}

nth_in : (e : Part) (n : ℕ) (ps : List Part) → 1 ≤ n → n ≤ length ps → Memᴰ (nth e n ps) ps
unfolding nth
nth_in e zero ps l h = absurd (omega arith)
nth_in e (suc n) [] l h = absurd (omega arith)
nth_in e (suc zero) (p ∷ ps) l h = Memᴰ.head refl
nth_in e (suc (suc n)) (p ∷ ps) l h = Memᴰ.tail (nth_in e (suc n) ps (omega arith) (omega arith))

nth_out : (e : Part) (n : ℕ) (ps : List Part) → (n ≡ 0) ⊎ (length ps < n) → nth e n ps ≡ e
unfolding nth
nth_out e n [] h = refl
nth_out e zero (p ∷ ps) h = refl
nth_out e (suc zero) (p ∷ ps) (inl h) = absurd (omega arith)
nth_out e (suc zero) (p ∷ ps) (inr h) = absurd (omega arith)
nth_out e (suc (suc n)) (p ∷ ps) (inl h) = absurd (omega arith)
nth_out e (suc (suc n)) (p ∷ ps) (inr h) = nth_out e (suc n) ps (inr (omega arith))

-- a number of some parts at which one stands
abbrev Numbered : Part → List Part → Part → Type 0
Numbered e ps p = (n : ℕ) × (1 ≤ n) × (n ≤ length ps) × (nth e n ps ≡ p)

in_nth : (e p : Part) (ps : List Part) → Memᴰ p ps → Numbered e ps p
unfolding nth
in_nth e p [] m = absurd (Memᴰ.not-nil m)
in_nth e p (q ∷ ps) m = go (Memᴰ.cases_cons m) (in_nth e p ps)
  where
    later : Numbered e ps p → Numbered e (q ∷ ps) p
    later (zero, l, h, same) = absurd (omega arith)
    later (suc n, l, h, same) = (suc (suc n), omega arith, omega arith, same)

    go : (p ≡ q) ⊎ Memᴰ p ps → (Memᴰ p ps → Numbered e ps p) → Numbered e (q ∷ ps) p
    go (inl same) ih = (1, omega arith, omega arith, sym same)
    go (inr k) ih = later (ih k)

-- each word is a longest run
pub word_is_run : (text : List ℕ) (n : ℕ) → 1 ≤ n → n ≤ length (parts_of text) → LongestRun text (word_at text n)
unfolding word_at
word_is_run text n l h = ((words_are_runs text).runs (word_at text n)).0 (nth_in (end_of text) n (parts_of text) l h)

-- each longest run is a word
pub run_is_word : (text : List ℕ) (p : Part) → LongestRun text p → (n : ℕ) × (1 ≤ n) × (n ≤ length (parts_of text)) × (word_at text n ≡ p)
unfolding word_at
run_is_word text p x = in_nth (end_of text) p (parts_of text) (((words_are_runs text).runs p).1 x)

-- there is no word 0, and none after the last
pub no_word : (text : List ℕ) (n : ℕ) → (n ≡ 0) ⊎ (length (parts_of text) < n) → word_at text n ≡ end_of text
unfolding word_at
no_word text n h = nth_out (end_of text) n (parts_of text) h
