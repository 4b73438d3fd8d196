-- A leaf and its chain look at the five words and the rows alone: packed tables give them what the tables that they hold would.
-- Assumes nothing.
use Prim.Native.Nat.{ℕ, zero, suc, ◌≤◌, ◌<◌}
use native.Mathlib.Decide.{dec_lt}
use native.Mathlib.Omega.{arith}
use mathlib.Core.Path.{◌≡◌, refl, ◌∙◌, ap}
use mathlib.Core.Bool.{Bool, true, false}
use mathlib.Core.List.{List}
use lib.Dec.{eqb}
use lib.ListN.{length}
use borrow.Author.Tests.{ne_eqb, lt-ltb}
use Rattle.model.specs.Tables.{width_of, next_of, filed_of}
use Rattle.model.specs.Packed.{unpacked, Packs}
use Rattle.model.proofs.Asking.{true_false}
use Rattle.model.proofs.Packing.{row_word, front_word}
use Rattle.search.specs.Budget.{Budget}
use Rattle.search.specs.Marks.{mark}
use Rattle.search.specs.Search.{may_mark, chain_step, chain_twin, leaf_twin}

step_same : (f g : ℕ → List ℕ → Budget × List ℕ) (z t : Bool) (x y : ℕ) (l : Budget) (b : ℕ) (m : List ℕ) → (t ≡ true → f x (mark m b) ≡ g y (mark m b)) → chain_step f z t x l b m ≡ chain_step g z t y l b m
step_same f g true t x y l b m h = refl
step_same f g false true x y l b m h = h refl
step_same f g false false x y l b m h = refl

module _ (sigs links nodes : List ℕ) (P : Packs (length sigs) links nodes) (q : ℕ) where
  abbrev U : List ℕ
  U = unpacked links nodes

  width_row : width_of U ≡ width_of links
  width_row = front_word (length sigs) links nodes P 0 (omega arith)

  filed_row : (b : ℕ) → b ≤ length sigs → filed_of U b ≡ filed_of links b
  filed_row b h = row_word links nodes _ (omega (arith, P.rows_long))

  next_row : (b : ℕ) → b ≤ length sigs → next_of U b ≡ next_of links b
  next_row b h = row_word links nodes _ (omega (arith, P.rows_long))

  may_row : (b : ℕ) (m : List ℕ) → may_mark sigs U q b m ≡ may_mark sigs links q b m
  unfolding may_mark
  may_row b m = go (dec_lt (length sigs) b)
    where
      go : Dec (length sigs < b) → may_mark sigs U q b m ≡ may_mark sigs links q b m
      go (yes h) = simp (lt-ltb _ _ h)
      go (no n) = let h : b ≤ length sigs = omega arith in simp (filed_row b h, width_row)

  not_block : (b : ℕ) (m : List ℕ) → length sigs < b → may_mark sigs links q b m ≡ false
  unfolding may_mark
  not_block b m h = let z : b ≡ 0 → ⊥ = omega arith in simp (ne_eqb b 0 z, lt-ltb _ _ h)

  -- a block that may be marked is one of the tables
  may_block : (b : ℕ) (m : List ℕ) → may_mark sigs links q b m ≡ true → b ≤ length sigs
  may_block b m e = go (dec_lt (length sigs) b)
    where
      stop : length sigs < b → may_mark sigs links q b m ≡ false
      stop h = not_block b m h

      go : Dec (length sigs < b) → b ≤ length sigs
      go (no n) = omega arith
      go (yes h) = true_false e (stop h)

  chain_row : (n f k b : ℕ) (m : List ℕ) → chain_twin sigs U q n f k b m ≡ chain_twin sigs links q n f k b m
  unfolding chain_twin
  chain_row n f zero b m = refl
  chain_row n f (suc k) b m =
      rw (may_row b m)
      (step_same (chain_twin sigs U q n f k) (chain_twin sigs links q n f k) (eqb b 0) (may_mark sigs links q b m) (next_of U b) (next_of links b) (record { nodes = n; forks = f; blocks = suc k }) b m
      (λ e. chain_row n f k (next_of U b) (mark m b) ∙ ap (λ (x : ℕ). chain_twin sigs links q n f k x (mark m b)) (next_row b (may_block b m e))))

  pub leaf_row : (r : ℕ) (l : Budget) (m : List ℕ) → leaf_twin sigs (unpacked links nodes) q r l m ≡ leaf_twin sigs links q r l m
  unfolding leaf_twin
  leaf_row r l m = simp (width_row, chain_row)
