-- Tables whose nodes fit a word each.
-- Assumes nothing.
use Rattle.std.specs.Prelude.{ℕ, ◌^◌, ◌≤◌, ◌<◌, List}
use Rattle.model.specs.Tables.{position_of, left_of, right_of}

pub record NodeFits (B : ℕ) (links : List ℕ) (i : ℕ) : Type 0 where
  pub position : position_of B links i < 2 ^ 30
  pub left : left_of B links i < 2 ^ 17
  pub right : right_of B links i < 2 ^ 17

abbrev pub NodesFit : ℕ → List ℕ → Type 0
NodesFit B links = (i : ℕ) → 1 ≤ i → i < B → NodeFits B links i
