-- Ledgers with the same pairs, though one may have more blocks, have the same signatures in the same order, and the same blocks match.
-- Assumes nothing.
use Prim.Native.Nat.{ℕ, zero, suc, ◌+◌, ◌-◌, ◌≤◌}
use native.Mathlib.Omega.{arith}
use mathlib.Core.Path.{◌≡◌, refl, sym, ◌∙◌, ap, ap₂, subst}
use mathlib.Core.Bool.{true, false}
use mathlib.Core.List.{List, [], ◌∷◌}
use lib.ListN.{length, get_or, drop, length-drop}
use lib.Seq.{get_or-drop}
use Rattle.model.specs.Basics.{has}
use Rattle.model.specs.Signature.{coversb}
use Rattle.model.specs.Ledger.{Entry, unfiled, pair, Ledger, pair_signatures, matching_from, matching}
use Rattle.model.specs.SameQuote.{SameWidth, SameSet, SamePairs}

-- entries that are the same, place by place, beyond the end of the shorter list too
abbrev SameEntries : List Entry → List Entry → Type 0
SameEntries es es' = (i : ℕ) → get_or es i unfiled ≡ get_or es' i unfiled

-- A list that is read from the entries, those of block b and after it, each in its turn: the same of entries that are the same.
module _ (read : ℕ → List Entry → List ℕ) (first : ℕ → Entry → List ℕ → List ℕ)
    (turn : (b : ℕ) (es : List Entry) → read b es ≡ first b (get_or es 0 unfiled) (read (suc b) (drop 1 es))) where
  within_same : (n b : ℕ) (es es' : List Entry) → length es ≤ n → length es' ≤ n → SameEntries es es' → read b es ≡ read b es'
  within_same zero b [] [] l l' h = refl
  within_same zero b [] (e ∷ es') l l' h = absurd (omega arith)
  within_same zero b (e ∷ es) es' l l' h = absurd (omega arith)
  within_same (suc n) b es es' l l' h =
      let rest : SameEntries (drop 1 es) (drop 1 es') = λ i. get_or-drop 1 es i unfiled ∙ h (1 + i) ∙ sym (get_or-drop 1 es' i unfiled) in
      let k = length-drop 1 es in
      let k' = length-drop 1 es' in
      turn b es ∙ ap₂ (first b) (h 0) (within_same n (suc b) (drop 1 es) (drop 1 es') (omega arith) (omega arith) rest) ∙ sym (turn b es')

  read_same : (b : ℕ) (es es' : List Entry) → SameEntries es es' → read b es ≡ read b es'
  read_same b es es' = within_same (length es + length es') b es es' (omega arith) (omega arith)

abbrev first_signature : ℕ → Entry → List ℕ → List ℕ
first_signature b unfiled l = l
first_signature b (pair s) l = s ∷ l

signatures_turn : (b : ℕ) (es : List Entry) → pair_signatures es ≡ first_signature b (get_or es 0 unfiled) (pair_signatures (drop 1 es))
signatures_turn b [] = refl
signatures_turn b (unfiled ∷ es) = refl
signatures_turn b (pair s ∷ es) = refl

abbrev first_match : ℕ → ℕ → ℕ → Entry → List ℕ → List ℕ
first_match F q b unfiled l = l
first_match F q b (pair s) l = elim (coversb F s q) [ true ↦ b ∷ l | false ↦ l ]

match_turn : (F q b : ℕ) (es : List Entry) → matching_from F q b es ≡ first_match F q b (get_or es 0 unfiled) (matching_from F q (suc b) (drop 1 es))
unfolding matching_from
match_turn F q b [] = refl
match_turn F q b (unfiled ∷ es) = refl
match_turn F q b (pair s ∷ es) = refl

module _ (L L' : Ledger) (h : SamePairs L L') where
  same_entries : SameEntries L.entries L'.entries
  same_entries i = subst (λ (j : ℕ). get_or L.entries j unfiled ≡ get_or L'.entries j unfiled) {x = suc i - 1} (omega arith) (h (suc i) (omega arith))

  pub pairs_set : SameSet L L'
  pairs_set s = ap (has s) (read_same (λ b. pair_signatures) first_signature signatures_turn 1 L.entries L'.entries same_entries)

  pub pairs_matching : SameWidth L L' → (q : ℕ) → matching q L ≡ matching q L'
  pairs_matching w q =
      read_same (matching_from L.width q) (first_match L.width q) (match_turn L.width q) 1 L.entries L'.entries same_entries
      ∙ ap (λ (F : ℕ). matching_from F q 1 L'.entries) w
