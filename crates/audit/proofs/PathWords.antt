-- The path as the code has it, in the first words of two arrays: at the root it is nothing; one position more, set in its words, is one
-- edge more; and a word that is put back leaves it as it was.
-- Assumes nothing.
use Prim.Native.Nat.{ℕ, zero, suc, ◌+◌, ◌*◌, ◌^◌}
use native.Mathlib.Nat.{zero-mul}
use native.Mathlib.Omega.{arith}
use mathlib.Core.Path.{◌≡◌, refl, sym, ◌∙◌, ap, ap₂}
use mathlib.Core.List.{List, [], ◌∷◌, ◌++◌}
use mathlib.Core.Bool.{Bool, true}
use lib.Dec.{eqb}
use borrow.Author.Tests.{eqb-true}
use lib.Bits.{bit_and, bit_or, or_zero_r}
use lib.ListN.{length, set, take, drop, replicate}
use Rattle.std.proofs.lemmas.List.{take-append-drop}
use Rattle.model.specs.Limits.{word_bits}
use Rattle.model.specs.Tables.{width_of}
use Rattle.model.specs.Wide.{word_count, number_in, word_of}
use Rattle.audit.specs.declared.walk.Path.{Path}
use Rattle.audit.specs.Audit.{tested_in, passed_by, untested_all}

-- the first words of zeros are nothing
zeros : (k n : ℕ) → number_in (take k (replicate n 0)) ≡ 0
unfolding number_in
zeros zero n = refl
zeros (suc k) zero = refl
zeros (suc k) (suc n) = ap₂ ◌+◌ (zero-mul (2 ^ (word_bits * length (take k (replicate {A = ℕ} n 0))))) (zeros k n)

pub no_path : (L : List ℕ) (n : ℕ) → tested_in L (record { mask = replicate n 0; edges = replicate n 0 }) ≡ untested_all
no_path L n = ap (λ (x : ℕ). record { mask = x; edges = x }) (zeros (word_count (width_of L)) n)

-- the first words of a list stored over by x, as many
front : (W : ℕ) (x l : List ℕ) → length x ≡ length (take W l) → take W (x ++ drop W l) ≡ x
front zero [] l e = refl
front zero (v ∷ x) l e = absurd (omega arith)
front (suc W) [] [] e = refl
front (suc W) [] (y ∷ l) e = absurd (omega arith)
front (suc W) (v ∷ x) [] e = absurd (omega arith)
front (suc W) (v ∷ x) (y ∷ l) e = ap (λ (r : List ℕ). v ∷ r) (front W x l (omega arith))

-- and what lies behind
behind : (W : ℕ) (x l : List ℕ) → length x ≡ length (take W l) → drop W (x ++ drop W l) ≡ drop W l
behind zero [] l e = refl
behind zero (v ∷ x) l e = absurd (omega arith)
behind (suc W) [] [] e = refl
behind (suc W) [] (y ∷ l) e = absurd (omega arith)
behind (suc W) (v ∷ x) [] e = absurd (omega arith)
behind (suc W) (v ∷ x) (y ∷ l) e = behind W x l (omega arith)

-- a position set in the words `on` of the mask, and one in the words `taken` of the edges
module _ (L : List ℕ) (W : ℕ) (each : W ≡ word_count (width_of L)) (path : Path) (w : ℕ) (on : List ℕ) (long : length on ≡ length (take W path.mask))
    (number : number_in on ≡ bit_or (number_in (take W path.mask)) w) where
  -- the left edge
  pub left_path : tested_in L (record { mask = on ++ drop W path.mask; edges = path.edges }) ≡ passed_by (tested_in L path) w 0
  left_path = rw (← each) (ap₂ (λ (m e : ℕ). record { mask = m; edges = e }) (ap number_in (front W on path.mask long) ∙ number) (sym (or_zero_r (number_in (take W path.edges)))))

  -- the right one, after a left side that put back what it set
  pub right_path : (back : Path) → back ≡ record { mask = on ++ drop W path.mask; edges = path.edges } → (taken : List ℕ) → length taken ≡ length (take W back.edges)
      → number_in taken ≡ bit_or (number_in (take W back.edges)) w → tested_in L (record { mask = back.mask; edges = taken ++ drop W back.edges }) ≡ passed_by (tested_in L path) w w
  right_path back same taken as_long n =
      rw (← each)
      (ap₂ (λ (m e : ℕ). record { mask = m; edges = e })
      (ap (λ (p : Path). number_in (take W p.mask)) same ∙ ap number_in (front W on path.mask long) ∙ number)
      (ap number_in (front W taken back.edges as_long) ∙ n ∙ ap (λ (p : Path). bit_or (number_in (take W p.edges)) w) same))

-- a signature agrees with the path where its words do
pub on_path : (L : List ℕ) (W : ℕ) → W ≡ word_count (width_of L) → (path : Path) (s : ℕ) {b : Bool} → b ≡ eqb (bit_and s (number_in (take W path.mask))) (number_in (take W path.edges)) → b ≡ true
    → bit_and s (tested_in L path).mask ≡ (tested_in L path).edges
on_path L W each path s e t = rw (← each) (eqb-true _ _ (sym e ∙ t))

-- the words of l with a position set are x; what follows leaves the same; and the word is put back
pub restored : (W : ℕ) (l x after put : List ℕ) (k v : ℕ) → length x ≡ length (take W l) → set x (word_of (length (take W l)) k) v ≡ take W l → after ≡ x ++ drop W l
    → put ≡ set (take W after) (word_of (length (take W after)) k) v → put ++ drop W after ≡ l
restored W l x after put k v long back same e =
    let f : take W after ≡ x = ap (take W) same ∙ front W x l long in
    let words : put ≡ take W l = e ∙ ap (λ (y : List ℕ). set y (word_of (length y) k) v) f ∙ ap (λ (n : ℕ). set x (word_of n k) v) long ∙ back in
    ap₂ (λ (y z : List ℕ). y ++ z) words (ap (drop W) same ∙ behind W x l long) ∙ take-append-drop W l
