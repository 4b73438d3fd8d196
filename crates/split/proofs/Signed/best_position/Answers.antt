-- `split::Signed::best_position` meets its contract: the best of the positions passed, tried against those to come, is the best of all.
-- Assumes nothing.
use Rattle.std.proofs.Common.{◌+◌, arith, ◌≡◌}
use mathlib.Core.Path.{refl}
use Rattle.model.specs.Tables.{signature_of}
use Rattle.split.proofs.Best.{Trying, trying_first, trying_yes, trying_no, trying_last}
use Rattle.split.proofs.Signed.best_position.Goals as goal
use Rattle.split.proofs.Signed.best_position.Goals.{then-size-next, else-size-next}

pub loop-number-init : goal.loop-number-init
loop-number-init g c = (trying_first _ _ _ _ (omega arith) c.smaller_side-size.ensures, refl)

pub loop-number-preserved : goal.loop-number-preserved
loop-number-preserved g c =
    let l = c.loop-number in
    let next = c.smaller_side-next in
    elim c.if-size-next.branch [
      | then-size-next w ↦ rw (w.best-is, w.size-is) (trying_yes l.invariant.0 _ l.auto.number c.loop-number-test.true next.ensures w.if-size-next.true, refl)
      | else-size-next w ↦ rw (w.best-is, w.size-is) (trying_no l.invariant.0 _ c.loop-number-test.true next.ensures w.if-size-next.false, l.invariant.1)
    ]

pub returns : goal.returns
returns g c =
    let t = c.loop-number.invariant in
    record { width = t.1; best = trying_last t.0 c.loop-number-test.false }

pub returns-after-size-next : goal.returns-after-size-next
returns-after-size-next g c =
    let s = c.args.self.now in
    let l = c.loop-number in
    let next = c.smaller_side-next in
    let t : Trying s.width (signature_of (g.S.Signatures.numbers s.signatures)) c.args.group.now (l.number + 1) c.if-size-next.best.number c.if-size-next.size × (c.if-size-next.best.width ≡ s.width) = elim c.if-size-next.branch [
      | then-size-next w ↦ rw (w.best-is, w.size-is) (trying_yes l.invariant.0 _ l.auto.number c.loop-number-test.true next.ensures w.if-size-next.true, refl)
      | else-size-next w ↦ rw (w.best-is, w.size-is) (trying_no l.invariant.0 _ c.loop-number-test.true next.ensures w.if-size-next.false, l.invariant.1)
    ] in
    record { width = t.1; best = trying_last t.0 (omega arith) }
