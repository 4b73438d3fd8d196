-- The positions that a word sets: exactly the listed ones are set, and one more triplet is no news where K are set or its position is.
-- Assumes nothing.
use mathlib.Core.Path.{◌≡◌, refl, sym, ap, ◌∙◌, subst}
use mathlib.Core.List.{List, [], ◌∷◌, ◌++◌}
use mathlib.Core.Logic.{◌≢◌}
use Prim.Native.Nat.{ℕ, zero, suc, ◌+◌, ◌-◌, ◌^◌, ◌≤◌, ◌<◌, min}
use native.Mathlib.Decide.{ℕ_discrete}
use native.Mathlib.Omega.{arith}
use lib.ListN.{length, take, length-append, length-take}
use lib.Seq.{take_all, take-nil}
use lib.Bits.{bit_or, or_zero_r, or_lt}
use lib.Pow.{pow_pos}
use Rattle.model.specs.Basics.{keep}
use Rattle.model.specs.Signature.{bit_at}
use Rattle.model.specs.Words.{others, different, set_all}
use Rattle.model.proofs.Bits.{bit_below}
use Rattle.signature.proofs.Bits.{bit_of_or, bit_zero, bit_one_here, bit_one_elsewhere, bit_one_fits, or_assoc}
use Rattle.words.specs.Pass.{Inside, Sets}
use Rattle.words.proofs.Different.{times, times_here, times_other, times_different, others_here, others_other, different_new, different_old}

inside_others : (F j : ℕ) (l : List ℕ) → Inside F l → Inside F (others j l)
unfolding keep
inside_others F j [] h = tt
inside_others F j (i ∷ l) h = go (inside_others F j l h.2) (ℕ_discrete i j)
  where
    go : Inside F (others j l) → Dec (i ≡ j) → Inside F (others j (i ∷ l))
    go ih (yes e) = subst (Inside F) (sym (ap (λ (k : ℕ). others j (k ∷ l)) e ∙ others_here j l)) ih
    go ih (no n) = subst (Inside F) (sym (others_other i j l n)) (h.0, h.1, ih)

pub inside_different : (F : ℕ) (l : List ℕ) → Inside F l → Inside F (different l)
unfolding different
inside_different F [] h = tt
inside_different F (i ∷ l) h = (h.0, h.1, inside_others F i (different l) (inside_different F l h.2))

pub inside_take : (F k : ℕ) (l : List ℕ) → Inside F l → Inside F (take k l)
inside_take F zero l h = tt
inside_take F (suc k) [] h = tt
inside_take F (suc k) (i ∷ l) h = (h.0, h.1, inside_take F k l h.2)

inside_snoc : (F j : ℕ) (l : List ℕ) → Inside F l → 1 ≤ j → j ≤ F → Inside F (l ++ (j ∷ []))
inside_snoc F j [] h p q = (p, q, tt)
inside_snoc F j (i ∷ l) h p q = (h.0, h.1, inside_snoc F j l h.2 p q)

-- a listed position is set, and no other
pub set_bit : (F : ℕ) (l : List ℕ) (j : ℕ) → Inside F l → j ≤ F → bit_at F (set_all F l) j ≡ min 1 (times j l)
unfolding set_all times
set_bit F [] j h q = bit_zero F j
set_bit F (i ∷ l) j h q = go (set_bit F l j h.2 q) (ℕ_discrete i j)
  where
    go : bit_at F (set_all F l) j ≡ min 1 (times j l) → Dec (i ≡ j) → bit_at F (bit_or (2 ^ (F - i)) (set_all F l)) j ≡ min 1 (times j (i ∷ l))
    go ih (yes e) =
        ap (λ (k : ℕ). bit_at F (bit_or (2 ^ (F - k)) (set_all F l)) j) e
        ∙ omega (arith, bit_of_or F (2 ^ (F - j)) (set_all F l) j, bit_one_here F j, bit_below F (set_all F l) j, times_here j l)
        ∙ ap (λ (k : ℕ). min 1 (times j (k ∷ l))) (sym e)
    go ih (no n) =
        let n' : j ≢ i = λ f. n (sym f) in
        omega (arith, bit_of_or F (2 ^ (F - i)) (set_all F l) j, bit_one_elsewhere F i j h.1 q n', ih, times_other i j l n)

pub set_snoc : (F : ℕ) (l : List ℕ) (j : ℕ) → set_all F (l ++ (j ∷ [])) ≡ bit_or (set_all F l) (2 ^ (F - j))
unfolding set_all
set_snoc F [] j = or_zero_r (2 ^ (F - j))
set_snoc F (i ∷ l) j = ap (bit_or (2 ^ (F - i))) (set_snoc F l j) ∙ sym (or_assoc (2 ^ (F - i)) (set_all F l) (2 ^ (F - j)))

-- the listed positions give a signature of the width
pub set_below : (F : ℕ) (l : List ℕ) → Inside F l → set_all F l < 2 ^ F
unfolding set_all
set_below F [] h = pow_pos F
set_below F (i ∷ l) h = or_lt F (2 ^ (F - i)) (set_all F l) (bit_one_fits F i h.0 h.1) (set_below F l h.2)

take_front : (k : ℕ) (d e : List ℕ) → k ≤ length d → take k (d ++ e) ≡ take k d
take_front zero d e h = refl
take_front (suc k) [] e h = absurd (omega arith)
take_front (suc k) (x ∷ d) e h = ap (λ (r : List ℕ). x ∷ r) (take_front k d e (omega arith))

-- no triplet yet
pub sets_none : (F K : ℕ) → Sets F K [] 0 0
unfolding different set_all
sets_none F K = record { inside = tt; signed = ap (set_all F) (sym (take-nil K)); counted = ap length (sym (take-nil {A = ℕ} K)) }

module _ (F K : ℕ) (js : List ℕ) (j bits count : ℕ) (p : 1 ≤ j) (q : j ≤ F) (s : Sets F K js bits count) where
  same : different (js ++ (j ∷ [])) ≡ different js → Sets F K (js ++ (j ∷ [])) bits count
  same e =
      record {
        inside = inside_snoc F j js s.inside p q;
        signed = s.signed ∙ ap (λ (r : List ℕ). set_all F (take K r)) (sym e);
        counted = s.counted ∙ ap (λ (r : List ℕ). length (take K r)) (sym e);
      }

  -- K are set already
  pub sets_full : K ≤ count → Sets F K (js ++ (j ∷ [])) bits count
  sets_full h = go (ℕ_discrete (times j js) 0)
    where
      go : Dec (times j js ≡ 0) → Sets F K (js ++ (j ∷ [])) bits count
      go (no n) =
          let l : 0 < times j js = omega arith in
          same (different_old j js l)
      go (yes z) =
          let l : K ≤ length (different js) = omega (arith, s.counted, length-take K (different js)) in
          let e : take K (different (js ++ (j ∷ []))) ≡ take K (different js) = ap (take K) (different_new j js z) ∙ take_front K (different js) (j ∷ []) l in
          record {
            inside = inside_snoc F j js s.inside p q;
            signed = s.signed ∙ ap (set_all F) (sym e);
            counted = s.counted ∙ ap length (sym e);
          }

  few : count < K → take K (different js) ≡ different js
  few h = take_all K (different js) (omega (arith, s.counted, length-take K (different js)))

  bit : count < K → bit_at F bits j ≡ min 1 (times j js)
  bit h =
      ap (λ (n : ℕ). bit_at F n j) (s.signed ∙ ap (set_all F) (few h))
      ∙ set_bit F (different js) j (inside_different F js s.inside) q
      ∙ omega (arith, times_different j js)

  -- an equal position is not counted again
  pub sets_known : count < K → bit_at F bits j ≡ 1 → Sets F K (js ++ (j ∷ [])) bits count
  sets_known h b = same (different_old j js (omega (arith, bit h)))

  pub sets_fresh : count < K → bit_at F bits j ≡ 0 → Sets F K (js ++ (j ∷ [])) (bit_or bits (2 ^ (F - j))) (count + 1)
  sets_fresh h b =
      let z : times j js ≡ 0 = omega (arith, bit h) in
      let c : count ≡ length (different js) = s.counted ∙ ap length (few h) in
      let one : length (different js ++ (j ∷ [])) ≡ count + 1 = length-append (different js) (j ∷ []) ∙ omega arith in
      let e : take K (different (js ++ (j ∷ []))) ≡ different js ++ (j ∷ []) = ap (take K) (different_new j js z) ∙ take_all K (different js ++ (j ∷ [])) (omega arith) in
      record {
        inside = inside_snoc F j js s.inside p q;
        signed = ap (λ (n : ℕ). bit_or n (2 ^ (F - j))) (s.signed ∙ ap (set_all F) (few h)) ∙ sym (set_snoc F (different js) j) ∙ ap (set_all F) (sym e);
        counted = sym one ∙ ap length (sym e);
      }
