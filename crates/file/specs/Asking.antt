-- A filing that no question refuses, and what it knows.
-- Assumes nothing.
use Rattle.std.specs.Prelude.{ℕ, ◌^◌, ◌≤◌, ◌<◌, ◌≡◌, List, length}
use Rattle.model.specs.Wide.{word_count, number_in}
use Rattle.model.specs.Tables.{width_of, filed_of}

-- Of tables of B blocks, which fit: the signature has W words, and questions 5 to 7 are answered with yes.
pub record Passed (B : ℕ) (links : List ℕ) (b : ℕ) (s : List ℕ) : Type 0 where
  pub long : length s ≡ word_count (width_of links)
  pub from : 1 ≤ b
  pub to : b ≤ B
  pub small : number_in s < 2 ^ width_of links
  pub unfiled : filed_of links b ≡ 0
