-- `withdraw::plan::plan_raise` meets its contract: what is stored is read off the parent's word.
-- Assumes nothing.
use Prim.Native.Nat.{◌+◌}
use native.Mathlib.Omega.{arith}
use mathlib.Core.Path.{◌∙◌}
use Rattle.model.proofs.Packing.{part_below}
use Rattle.tables.specs.Sides.{side_number}
use Rattle.tables.proofs.Held.{front}
use Rattle.withdraw.proofs.Plans.{raises}
use Rattle.withdraw.proofs.plan.plan_raise.Goals as goal

pub returns-clause-right : goal.returns-clause-right
returns-clause-right c F b s is_side =
    let h = c.requires.holds in
    raises c.args.tables.now c.args.parent h.1 h.0.1 h.0.2 F b s c.args.side is_side _ c.word_of-word.ensures _ _ _ c.side_in.ensures c.other.ensures

pub returns-clause-within : goal.returns-clause-within
returns-clause-within c =
    let h = c.requires.holds.0 in
    let f = c.requires.fits in
    let free = c.first_free.ensures ∙ front c.args.tables.now 3 (omega arith) in
    (f.0, h.0, h.1, h.2, omega (arith, c.side_in.ensures, part_below c.word_of-word.result (1 + side_number c.other.result) (omega arith)), omega (arith, free, f.1), free)
