-- Question 4's yes to tables, and what the two forms of the tables have in common.
-- Assumes nothing.
use Rattle.std.specs.Prelude.{ℕ, List, length, ◌*◌, ◌≡◌, ◌≤◌, ◌⊎◌}
use Rattle.model.specs.Limits.{widest, most_blocks}
use Rattle.model.specs.Wide.{word_count, signatures_in}
use Rattle.model.specs.Tables.{links_of, width_of, signatures_of, position_of, left_of, right_of}
use Rattle.model.specs.Packed.{rows_of, unpacked, Packs}
use Rattle.model.specs.Sound.{FitsAt}

-- The five words and the rows stand inside the links, and the width is one; sigs are the numbers of the blocks' signatures.
pub record RowsFit (sigs links : List ℕ) : Type 0 where
  pub blocks_from : 1 ≤ length sigs
  pub blocks_to : length sigs ≤ most_blocks
  pub rows_long : rows_of (length sigs) ≤ length links
  pub width_from : 1 ≤ width_of links
  pub width_to : width_of links ≤ widest

-- and their words are lent: W for each of the B blocks
pub record LentFit (B W : ℕ) (words links : List ℕ) : Type 0 where
  pub rows : RowsFit (signatures_in W B words) links
  pub each : W ≡ word_count (width_of links)
  pub long : length words ≡ B * W

-- the slices are as long as they should be, and the tables that they hold fit; sigs are the numbers that they hold
pub record FitsPacked (sigs words links nodes : List ℕ) : Type 0 where
  pub packs : Packs (length sigs) links nodes
  pub fits : FitsAt (length sigs) (width_of (unpacked links nodes)) sigs (unpacked links nodes)
  pub spelt : sigs ≡ signatures_of words (unpacked links nodes)
  pub long : length words ≡ length sigs * word_count (width_of (unpacked links nodes))

-- the same of tables of 5 * B + 2 links
pub record FitsUnpacked (sigs words links : List ℕ) : Type 0 where
  pub fits : FitsAt (length sigs) (width_of links) sigs links
  pub spelt : sigs ≡ signatures_of words links
  pub long : length words ≡ length sigs * word_count (width_of links)

-- the slices are packed ones, or the links of 5 * B + 2 words with no nodes beside them: either way they hold such tables
abbrev pub Forms : ℕ → List ℕ → List ℕ → Type 0
Forms B links nodes = Packs B links nodes ⊎ ((length links ≡ links_of B) × (length nodes ≡ 0))

-- tables in either form, of which question 4 says yes
pub record Fits (sigs links nodes : List ℕ) : Type 0 where
  pub form : Forms (length sigs) links nodes
  pub rows : RowsFit sigs links

-- a node's position and its two references
pub record PartsOf (B : ℕ) (links : List ℕ) (i p l r : ℕ) : Type 0 where
  pub position : p ≡ position_of B links i
  pub left : l ≡ left_of B links i
  pub right : r ≡ right_of B links i
