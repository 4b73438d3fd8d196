-- `tables::free::free_rest` meets its contract: the words still to be stored, from the node reached on, make the same tables.
-- Assumes nothing.
use Prim.Native.Nat.{ℕ, ◌+◌, ◌-◌, ◌≤◌}
use native.Mathlib.Omega.{arith}
use mathlib.Core.Path.{◌≡◌, refl, sym, ◌∙◌, ap}
use mathlib.Core.List.{List}
use lib.ListN.{length, set}
use lib.Seq.{sets}
use Rattle.model.specs.Tables.{position_at}
use Rattle.model.specs.Clear.{free_nodes}
use Rattle.model.specs.Packed.{unpacked, Packs}
use Rattle.tables.proofs.Spelled.{free_some, free_none}
use Rattle.tables.proofs.Freeing.{freed, free_end}
use Rattle.tables.proofs.free.free_rest.Goals as goal

-- the slices are as long after some turns
still_packs : (B : ℕ) (links nodes nodes₀ : List ℕ) → length nodes ≡ length nodes₀ → Packs B links nodes₀ → Packs B links nodes
still_packs B links nodes nodes₀ e P = record { rows_long = P.rows_long; nodes_long = omega (arith, P.nodes_long) }

pub loop-next-init : goal.loop-next-init
loop-next-init c =
    let e : c.args.first + 1 - 1 ≡ c.args.first = omega arith in
    (omega arith, refl, λ links P. ap (λ (n : ℕ). sets (unpacked links c.args.nodes.now) (position_at c.args.blocks n) (free_nodes (c.args.blocks - n) n)) e)

pub set_node-requires : goal.set_node-requires
set_node-requires c =
    let p = c.requires in
    record { le_node = (omega (arith, p.0, c.loop-next.auto.next), omega (arith, c.loop-next.invariant.1, p.3, c.loop-next-test.true)); parts_fit = rw c.leads_to.ensures (omega arith, omega (arith, p.2, c.loop-next-test.true), omega arith) }

pub loop-next-preserved : goal.loop-next-preserved
loop-next-preserved c =
    let l = c.loop-next in
    let p = c.requires in
    let k = c.loop-next-test.true in
    let w = c.set_node in
    let e : l.next ≡ l.next + 1 - 1 = omega arith in
    let on : l.next - 1 + 1 ≡ l.next = omega (arith, l.auto.next) in (
      omega (arith, k),
      w.auto.nodes ∙ l.invariant.1,
      (λ links P. ap (λ (n : ℕ). sets (unpacked links w.new.nodes) (position_at c.args.blocks n) (free_nodes (c.args.blocks - n) n)) (sym e)
          ∙ rw on at (freed c.args.blocks (l.next - 1) l.next links l.nodes w.new.nodes _ (still_packs _ _ _ _ l.invariant.1 P) (omega (arith, p.0, l.auto.next)) (omega (arith, k)) (omega (arith, k, p.2)) (sym on ∙ sym (free_some c.args.blocks (l.next - 1 + 1) (omega (arith, k, l.auto.next)))) (rw c.leads_to.ensures at w.ensures) (l.invariant.2 links P))),
    )

pub returns-then-first-last : goal.returns-then-first-last
returns-then-first-last c links P =
    let l = c.loop-next in
    let p = c.requires in
    let B = c.args.blocks in
    let n : ℕ = l.next - 1 in
    let from : 1 ≤ n = omega (arith, p.0, l.auto.next) in
    let e : B - 1 ≡ n = omega (arith, c.loop-next-test.false, l.auto.next-end, c.if-first-last.true, l.invariant.0) in
    let w = c.set_node-then-first-last in
    free_end B (n + 1) (unpacked links w.new.nodes) _ (omega (arith, e))
    (freed B n 0 links l.nodes w.new.nodes _ (still_packs _ _ _ _ l.invariant.1 P) from (omega (arith, e, from)) (omega arith) (sym (free_none B (n + 1) (omega (arith, e))))
    ((rw c.leads_to-then-first-last.ensures at w.ensures) ∙ ap (λ (n : ℕ). set l.nodes (n - 1) 0) e) (l.invariant.2 links P))

pub returns-else-first-last : goal.returns-else-first-last
returns-else-first-last c links P =
    free_end c.args.blocks (c.loop-next.next - 1) (unpacked links c.loop-next.nodes) _ (omega (arith, c.if-first-last.false, c.loop-next.auto.next, c.loop-next.invariant.0)) (c.loop-next.invariant.2 links P)
