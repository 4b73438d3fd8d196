-- `split::Signed::partition` meets its contract: before `low` the bit is 0, from `end` on it is 1, and entries only change places.
-- Assumes nothing.
use Rattle.std.proofs.Common.{◌-◌, arith, sym, ◌∙◌}
use Rattle.std.proofs.lemmas.List.Edits.{swap_is}
use Rattle.signature.proofs.Bits.{bit_set, bit_clear}
use Rattle.split.proofs.Parting.{parting_start, parting_low, parting_high, parting_block, parting_end}
use Rattle.split.proofs.Signed.partition.Goals as goal

pub loop-low-init : goal.loop-low-init
loop-low-init g c = parting_start _ _ _ _

pub is_set-requires-clause-block_inside : goal.is_set-requires-clause-block_inside
is_set-requires-clause-block_inside g c =
    let s = c.args.self.now in
    parting_block c.args.position.width (g.S.Signatures.numbers s.signatures) c.args.position.number _ _ _ _ c.loop-low.invariant c.loop-low-test.true c.requires.blocks

pub loop-low-preserved-then-is_set : goal.loop-low-preserved-then-is_set
loop-low-preserved-then-is_set g c =
    let l = c.loop-low in
    let e = c.swap.ensures.after ∙ sym (swap_is l.group l.low (l.end - 1) 0 (omega arith) (omega arith)) in
    let one = bit_set _ _ _ (sym c.is_set.ensures ∙ c.if-is_set.true) in
    rw e (parting_high _ _ _ _ _ _ _ l.invariant c.loop-low-test.true (λ z. omega (arith, one, z)))

pub loop-low-preserved : goal.loop-low-preserved
loop-low-preserved g c =
    parting_low _ _ _ _ _ _ _ c.loop-low.invariant c.loop-low-test.true (bit_clear _ _ _ (sym c.is_set.ensures ∙ c.if-is_set.false))

pub returns : goal.returns
returns g c = parting_end _ _ _ _ _ _ _ c.loop-low.invariant c.loop-low-test.false
