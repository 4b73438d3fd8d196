-- The rows, the count and the chains are read from the five words and the rows alone: in either form they say what the tables held say.
-- Assumes nothing.
use Prim.Native.Nat.{ℕ, zero, suc, ◌+◌, ◌≤◌, ◌<◌}
use native.Mathlib.Decide.{dec_lt}
use native.Mathlib.Omega.{arith}
use mathlib.Core.Path.{◌≡◌, refl, ◌∙◌, ap, ap₂}
use mathlib.Core.Bool.{Bool, true, false}
use mathlib.Core.List.{List}
use lib.Dec.{eqb}
use lib.ListN.{length}
use borrow.Author.Tests.{lt-ltb}
use Rattle.std.specs.Prelude.{Option, None, Some}
use Rattle.model.specs.Basics.{pick}
use Rattle.model.specs.Tables.{word, next_of, filed_of}
use Rattle.model.specs.Sound.{filed_up_to}
use Rattle.model.specs.Packed.{rows_of, unpacked}
use Rattle.model.proofs.Packing.{row_word}
use Rattle.tables.specs.Fits.{RowsFit}
use Rattle.audit.specs.declared.walk.Lent.{Lent}
use Rattle.audit.specs.Audit.{Tested, rows_ok, block_ok, chain_twin, leaf_twin}
use Rattle.audit.proofs.ChainLaws.{block_yes}

module _ (sigs links nodes : List ℕ) (R : RowsFit sigs links) where
  abbrev U : List ℕ
  U = unpacked links nodes

  in_rows : (a : ℕ) → a < rows_of (length sigs) → word U a ≡ word links a
  in_rows a h = row_word links nodes a (omega (arith, R.rows_long))

  pub front : (a : ℕ) → a < 5 → word (unpacked links nodes) a ≡ word links a
  front a h = in_rows a (omega arith)

  filed_row : (b : ℕ) → b ≤ length sigs → filed_of U b ≡ filed_of links b
  filed_row b h = in_rows _ (omega arith)

  next_row : (b : ℕ) → b ≤ length sigs → next_of U b ≡ next_of links b
  next_row b h = in_rows _ (omega arith)

  filed_upto : (n : ℕ) → n ≤ length sigs → filed_up_to (unpacked links nodes) n ≡ filed_up_to links n
  filed_upto zero h = refl
  filed_upto (suc n) h = ap₂ (λ (x y : ℕ). x + y) (filed_row (suc n) h) (filed_upto n (omega arith))

  rows_upto : (n : ℕ) → n ≤ length sigs → rows_ok sigs (unpacked links nodes) n ≡ rows_ok sigs links n
  unfolding rows_ok
  rows_upto zero h = refl
  rows_upto (suc n) h =
      rw (rows_upto n (omega arith), front 0 (omega arith), next_row (suc n) h, filed_row (suc n) h)

  pub filed_all : filed_up_to (unpacked links nodes) (length sigs) ≡ filed_up_to links (length sigs)
  filed_all = filed_upto (length sigs) (omega arith)

  pub rows_all : rows_ok sigs (unpacked links nodes) (length sigs) ≡ rows_ok sigs links (length sigs)
  rows_all = rows_upto (length sigs) (omega arith)

  block_row : (s b : ℕ) → block_ok sigs U s b ≡ block_ok sigs links s b
  unfolding block_ok
  block_row s b = go (dec_lt (length sigs) b)
    where
      go : Dec (length sigs < b) → block_ok sigs U s b ≡ block_ok sigs links s b
      go (yes h) = simp (lt-ltb _ _ h)
      go (no n) = let h : b ≤ length sigs = omega arith in simp (filed_row b h)

  same_pick : (t : Bool) (x y z : Option ℕ) → (t ≡ true → x ≡ y) → pick t x z ≡ pick t y z
  same_pick true x y z h = h refl
  same_pick false x y z h = refl

  chain_row : (k s b : ℕ) → chain_twin k sigs U s b ≡ chain_twin k sigs links s b
  unfolding chain_twin
  chain_row zero s b = refl
  chain_row (suc k) s b =
      rw (block_row s b)
      (ap (λ (c : Option ℕ). pick (eqb b 0) (Some (suc k)) c)
      (same_pick (block_ok sigs links s b) (chain_twin k sigs U s (next_of U b)) (chain_twin k sigs links s (next_of links b)) None
      (λ e. chain_row k s (next_of U b) ∙ ap (chain_twin k sigs links s) (next_row b (block_yes sigs links s b e).to))))

  pub leaf_row : (t : Tested) (r : ℕ) (lent : Lent) → leaf_twin sigs (unpacked links nodes) t r lent ≡ leaf_twin sigs links t r lent
  unfolding leaf_twin
  leaf_row t r lent = simp chain_row
