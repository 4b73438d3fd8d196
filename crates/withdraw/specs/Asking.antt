-- A withdrawal that no question refuses, and what it knows.
-- Assumes nothing.
use Rattle.std.specs.Prelude.{ℕ, ◌≤◌, ◌≢◌, List}
use Rattle.model.specs.Tables.{filed_of}

-- Of tables of B blocks, which fit: questions 5 and 8 are answered with yes; a filed word above 1 counts as filed.
pub record Passed (B : ℕ) (links : List ℕ) (b : ℕ) : Type 0 where
  pub from : 1 ≤ b
  pub to : b ≤ B
  pub filed : filed_of links b ≢ 0
