-- Signatures and matching (document 01, "Signatures and matching"), for every width F.
-- A signature is a number below 2 ^ F. Position j, 1 to F, counts from the left and has weight 2 ^ (F - j).
-- Assumes nothing.
use Rattle.std.specs.Prelude.{ℕ, zero, suc, ◌-◌, ◌/◌, ◌%◌, ◌^◌, ◌≤◌, ◌≡◌, Bool, true, false, ◌&&◌, List, eqb, leb}
use Rattle.model.specs.Basics.{up_from, keep}

-- the bit of s at position j: 0 or 1
abbrev pub bit_at : ℕ → ℕ → ℕ → ℕ
bit_at F s j = s / 2 ^ (F - j) % 2

-- s covers q: every position set in q is set in s
abbrev pub Covers : ℕ → ℕ → ℕ → Type 0
Covers F s q = (j : ℕ) → 1 ≤ j → j ≤ F → bit_at F q j ≡ 1 → bit_at F s j ≡ 1

-- the same as a test that computes at every width: the last position, then the F - 1 before it
unfoldable pub coversb : ℕ → ℕ → ℕ → Bool
coversb zero s q = true
coversb (suc F) s q = leb (q % 2) (s % 2) && coversb F (s / 2) (q / 2)

-- the first of the n positions from j on at which a and b differ, and j + n where there is none
unfoldable pub difference_from : ℕ → ℕ → ℕ → ℕ → ℕ → ℕ
difference_from F a b zero j = j
difference_from F a b (suc n) j = elim (eqb (bit_at F a j) (bit_at F b j)) [ true ↦ difference_from F a b n (suc j) | false ↦ j ]

-- the first position, counted from the left, where the two signatures differ
abbrev pub first_difference : ℕ → ℕ → ℕ → ℕ
first_difference F a b = difference_from F a b F 1

-- the zero bits of q: the positions 1 to F not set in it
abbrev pub zero_bits : ℕ → ℕ → List ℕ
zero_bits F q = keep (λ j. eqb (bit_at F q j) 0) (up_from F 1)
