-- Small functions that the other definitions share.
-- Assumes nothing.
use Rattle.std.specs.Prelude.{ℕ, zero, suc, ◌<◌, Bool, true, false, List, [], ◌∷◌, eqb}

-- the n numbers from j on: j, j + 1, ..
unfoldable pub up_from : ℕ → ℕ → List ℕ
up_from zero j = []
up_from (suc n) j = j ∷ up_from n (suc j)

-- the entries at which the test holds, in order
unfoldable pub keep : (ℕ → Bool) → List ℕ → List ℕ
keep test [] = []
keep test (x ∷ xs) = elim (test x) [ true ↦ x ∷ keep test xs | false ↦ keep test xs ]

-- does the list have x?
unfoldable pub has : ℕ → List ℕ → Bool
has x [] = false
has x (y ∷ ys) = elim (eqb y x) [ true ↦ true | false ↦ has x ys ]

-- each entry of a list once
unfoldable pub once : List ℕ → List ℕ
once [] = []
once (x ∷ xs) = elim (has x xs) [ true ↦ once xs | false ↦ x ∷ once xs ]

-- ascending, none twice
abbrev pub Ascending : List ℕ → Type 0
Ascending [] = Unit {0}
Ascending (x ∷ []) = Unit {0}
Ascending (x ∷ y ∷ ys) = (x < y) × Ascending (y ∷ ys)

-- the first of two where the test holds, else the second
abbrev pub pick {ℓ} : {A : Type ℓ} → Bool → A → A → A
pick true a b = a
pick false a b = b
