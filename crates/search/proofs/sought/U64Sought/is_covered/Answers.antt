-- A query of one word: so are the signatures, and the slice that holds them is the list of their numbers.
-- Assumes nothing.
use Prim.Native.Nat.{ℕ, ◌-◌}
use native.Mathlib.Omega.{arith}
use mathlib.Core.Path.{ap, ◌∙◌, sym}
use mathlib.Core.List.{List}
use lib.ListN.{length, get_or}
use Rattle.model.specs.Signature.{coversb}
use Rattle.model.specs.Tables.{width_of}
use Rattle.search.proofs.Words.{one_numbers}
use Rattle.search.proofs.sought.U64Sought.is_covered.Goals as goal

pub bounds-rows-block : goal.bounds-rows-block
bounds-rows-block c =
    let low = c.requires.inside.0 in
    omega (arith, c.requires.inside.1, ap (λ (s : List ℕ). length s) (one_numbers c.args.rows.now c.requires.fits.0))

pub returns : goal.returns
returns c =
    let r = c.args.rows.now in
    c.word_covers.ensures _ c.requires.fits.1 ∙ ap (λ (s : List ℕ). coversb (width_of r.links.now) (get_or s (c.args.block - 1) 0) c.args.self) (sym (one_numbers r c.requires.fits.0))
