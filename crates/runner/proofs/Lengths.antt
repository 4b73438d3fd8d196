-- How long slips are and how many words they are lent, at any width.
-- Assumes nothing.
use Prim.Native.Nat.{ℕ, ◌*◌, ◌≤◌}
use native.Mathlib.Nat.{mul-le-mul}
use native.Mathlib.Omega.{arith}
use mathlib.Core.Path.{◌≡◌, refl}
use mathlib.Core.Bool.{Bool, true, false, cond, ◌&&◌}
use mathlib.Core.List.{List}
use lib.Dec.{leb, eqb}
use lib.ListN.{length}
use borrow.Author.Tests.{eqb-true}
use Rattle.model.specs.Limits.{widest, most_blocks}
use Rattle.model.specs.Wide.{word_count}
use Rattle.model.specs.Tables.{width_of}
use Rattle.model.specs.Packed.{packed_blocks}
use Rattle.model.specs.Questions.{width_fits, kind_in, block_in, slip_length}
use Rattle.model.proofs.Asking.{both, in_range}
use Rattle.model.proofs.Packing.{fit_range, fit_packs}
use Rattle.runner.specs.Served.{slip_size, words_by, clears, HoldsIndex}

-- a slip has some bytes
pub size_some : (links : List ℕ) (kind : ℕ) → 1 ≤ slip_size links kind
unfolding slip_size
size_some links kind = go (leb 1 kind && leb kind 4 && width_fits (width_of links))
  where
    go : (t : Bool) → 1 ≤ cond t (slip_length (word_count (width_of links))) (slip_length 1)
    go true = omega arith
    go false = omega arith

-- what `clears` asks
pub clears_asks : (slip : List ℕ) → clears slip ≡ true → (length slip ≡ slip_length 1) × (kind_in slip ≡ 0) × (width_fits (block_in slip) ≡ true)
unfolding clears
clears_asks slip e =
    let whole : Bool = eqb (length slip) (slip_length 1) in
    let kind : Bool = eqb (kind_in slip) 0 in
    let a = both {t = whole && kind} {u = width_fits (block_in slip)} e in
    let b = both {t = whole} {u = kind} a.0 in
    (eqb-true (length slip) (slip_length 1) b.0, eqb-true (kind_in slip) 0 b.1, a.1)

-- no width takes more words than the widest
words_few : (F : ℕ) → width_fits F ≡ true → word_count F ≤ word_count widest
words_few F e =
    let r = in_range F widest e in
    omega arith

pub words_most : (B F : ℕ) → words_by B F ≤ B * word_count widest
unfolding words_by
words_most B F = go (width_fits F) refl
  where
    go : (t : Bool) → width_fits F ≡ t → cond t (B * word_count F) 0 ≤ B * word_count widest
    go true e = let same : B ≤ B = omega arith in mul-le-mul same (words_few F e)
    go false e = omega arith

-- an index has a width, and not too many blocks
pub index_links : (words links nodes : List ℕ) → HoldsIndex words links nodes → (1 ≤ length links) × (packed_blocks links ≤ most_blocks)
index_links words links nodes h = (omega (arith, (fit_packs links nodes h.fits).rows_long), (fit_range links nodes h.fits).1)
