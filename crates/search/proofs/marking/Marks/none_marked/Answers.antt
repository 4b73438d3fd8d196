-- `search::marking::Marks::none_marked` meets its contract: where the OR of the run's marks is 0, so is each of them.
-- Assumes nothing.
use mathlib.Core.Path.{◌≡◌, sym, ◌∙◌}
use Prim.Native.Nat.{◌+◌, ◌-◌}
use native.Mathlib.Omega.{arith}
use borrow.Author.Tests.{eqb-true}
use Rattle.search.proofs.Listings.{run_none}
use Rattle.search.proofs.marking.Marks.none_marked.Goals as goal

pub returns : goal.returns
returns c =
    let a = c.args in
    let d : a.from + 64 - a.from ≡ 64 = omega arith in
    λ e. run_none a.self.now.bytes.now a.from 64 c.requires.0 (rw d at (sym c.all_of.ensures ∙ eqb-true _ _ e))
