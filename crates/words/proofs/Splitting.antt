-- How the search for a word goes on, byte by byte: each branch of the pass leaves the word that is looked for the same.
-- Assumes nothing.
use mathlib.Core.Path.{◌≡◌, refl, ap}
use mathlib.Core.List.{List, [], ◌∷◌}
use mathlib.Core.Bool.{true, false}
use mathlib.Core.Logic.{◌≢◌}
use Prim.Native.Nat.{ℕ, zero, suc, ◌+◌, ◌-◌, ◌≤◌, ◌<◌}
use native.Mathlib.Omega.{arith}
use native.Mathlib.Numerals.{add-one}
use lib.ListN.{length, drop, get_or}
use lib.Seq.{drop-cons, drop-length}
use Rattle.model.specs.Words.{Part, separator, ended, scan, parts_of, end_of, nth, word_at}

-- the word that is looked for, once i bytes are behind, of which the last from start on are a run
unfoldable pub rest : List ℕ → ℕ → ℕ → ℕ → Part
rest text left start i = nth (end_of text) left (scan start (i - start) (drop i text))

pub begins : (text : List ℕ) (n : ℕ) → rest text n 0 0 ≡ word_at text n
unfolding rest word_at parts_of
begins text n = refl

ended_some : (s n : ℕ) (ps : List Part) → 0 < n → ended s n ps ≡ record { start = s; size = n } ∷ ps
unfolding ended
ended_some s zero ps h = absurd (omega arith)
ended_some s (suc n) ps h = refl

nth_next : (e : Part) (n : ℕ) (p : Part) (ps : List Part) → n ≢ 1 → nth e n (p ∷ ps) ≡ nth e (n - 1) ps
unfolding nth
nth_next e zero p [] h = refl
nth_next e zero p (q ∷ ps) h = refl
nth_next e (suc zero) p ps h = absurd (h refl)
nth_next e (suc (suc n)) p ps h = ap (λ (m : ℕ). nth e m ps) (omega arith)

nth_one : (e : Part) (p : Part) (ps : List Part) → nth e 1 (p ∷ ps) ≡ p
unfolding nth
nth_one e p ps = refl

nth_none : (e : Part) (n : ℕ) → nth e n [] ≡ e
unfolding nth
nth_none e n = refl

module _ (text : List ℕ) (left start i : ℕ) (here : start ≤ i) (below : i < length text) where
  ahead : drop i text ≡ get_or text i 0 ∷ drop (suc i) text
  ahead = drop-cons text i 0 below

  -- the run goes on
  pub goes_on : separator (get_or text i 0) ≡ false → rest text left start i ≡ rest text left start (i + 1)
  unfolding rest scan
  goes_on g =
      let e : i + 1 - start ≡ suc (i - start) = omega arith in
      rw (e, add-one) (simp (ahead, g))

  -- between words
  pub between : separator (get_or text i 0) ≡ true → i ≤ start → rest text left start i ≡ rest text left (i + 1) (i + 1)
  unfolding rest scan ended
  between g h =
      let e : i - start ≡ 0 = omega arith in
      let z : i + 1 - (i + 1) ≡ 0 = omega arith in
      let s : suc (start + 0) ≡ i + 1 = omega arith in
      rw (e, z) (simp (ahead, g, s, add-one))

  -- a word ends, and it is not the one
  pub passed : separator (get_or text i 0) ≡ true → start < i → left ≢ 1 → rest text left start i ≡ rest text (left - 1) (i + 1) (i + 1)
  unfolding rest scan
  passed g h k =
      let z : i + 1 - (i + 1) ≡ 0 = omega arith in
      let s : suc (start + (i - start)) ≡ i + 1 = omega arith in
      let more : 0 < i - start = omega arith in
      rw z (simp (ahead, g, ended_some, nth_next, s, add-one))

  -- a word ends, and it is the one
  pub is_found : separator (get_or text i 0) ≡ true → start < i → left ≡ 1 → rest text left start i ≡ record { start = start; size = i - start }
  unfolding rest scan
  is_found g h k =
      let more : 0 < i - start = omega arith in
      simp (k, ahead, g, ended_some, nth_one)

-- at the end of the text
module _ (text : List ℕ) (left start i : ℕ) (here : start ≤ i) (all : i ≡ length text) where
  none : drop i text ≡ []
  none = rw all (drop-length text)

  -- it ends between words
  pub ends_between : i ≤ start → rest text left start i ≡ end_of text
  unfolding rest scan ended
  ends_between h =
      let z : i - start ≡ 0 = omega arith in
      simp (none, z, nth_none)

  -- it ends with a word that is not the one
  pub ends_short : start < i → left ≢ 1 → rest text left start i ≡ end_of text
  unfolding rest scan
  ends_short h k =
      let more : 0 < i - start = omega arith in
      simp (none, ended_some, nth_next, nth_none)

  -- it ends with the word
  pub ends_found : start < i → left ≡ 1 → rest text left start i ≡ record { start = start; size = i - start }
  unfolding rest scan
  ends_found h k =
      let more : 0 < i - start = omega arith in
      simp (k, none, ended_some, nth_one)
