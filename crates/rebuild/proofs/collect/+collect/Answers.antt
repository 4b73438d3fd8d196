-- `rebuild::collect::collect` meets its contract: nothing, one head, or the heads of the two sides. The measure is the number of
-- untested positions.
-- Assumes nothing.
use Rattle.std.proofs.Common.{ℕ, ◌-◌, length, arith, sym, ap, subst, drop}
use Rattle.std.proofs.lemmas.List.Edits.{sets}
use Rattle.model.specs.Packed.{unpacked}
use Rattle.model.specs.Rebuild.{heads_from}
use Rattle.std.proofs.Math.Seq.{length-take-le}
use Rattle.std.proofs.lemmas.List.{length-drop}
use Rattle.tables.specs.Rows.{numbers}
use Rattle.rebuild.specs.Walkable.{Walkable}
use Rattle.rebuild.proofs.Heads.{heads_from_none}
use Rattle.rebuild.proofs.Collecting.{heads_leaf, walk_on, onward_count, onward_end}
use Rattle.rebuild.proofs.collect.+collect.Goals as goal

pub returns-then-reference-eq0 : goal.returns-then-reference-eq0
returns-then-reference-eq0 t c =
    let a = c.args in
    let t = a.tables.now in
    let e = heads_from_none (length (numbers t.rows)) (unpacked t.rows.links.now t.nodes.now) a.untested a.reference c.if-reference-eq0.true in
    record { within = omega (arith, c.requires.room, ap length e); count = sym (ap length e); list = ap (sets a.scratch.now 0) (sym e) }

pub bounds-scratch-0 : goal.bounds-scratch-0
bounds-scratch-0 t c =
    let a = c.args in
    let t = a.tables.now in
    omega (arith, ap length (heads_leaf (length (numbers t.rows)) (unpacked t.rows.links.now t.nodes.now) a.untested a.reference c.if-reference-eq0.false (omega arith)), c.requires.room)

pub returns-then-at-blocks : goal.returns-then-at-blocks
returns-then-at-blocks t c =
    let a = c.args in
    let t = a.tables.now in
    let e = heads_leaf (length (numbers t.rows)) (unpacked t.rows.links.now t.nodes.now) a.untested a.reference c.if-reference-eq0.false (omega arith) in
    record { within = omega (arith, c.requires.room, ap length e); count = sym (ap length e); list = ap (sets a.scratch.now 0) (sym e) }

pub collect-found-requires : goal.collect-found-requires
collect-found-requires t c =
    let a = c.args in
    let s = a.tables.now in
    let B = length (numbers s.rows) in
    let U = unpacked s.rows.links.now s.nodes.now in
    let K = walk_on B U a.untested a.reference c.requires.walkable (omega arith) in
    let parts = rw c.blocks-blocks.ensures at c.node-left.ensures in
    let e = parts.left in
    let heads : ℕ → ℕ = λ r. length (heads_from B U (a.untested - 1) r) in
    (omega (arith, K.more, c.decreases), (subst (Walkable B U (a.untested - 1)) (sym e) K.left, omega (arith, c.requires.room, onward_count _ _ _ _ K, ap heads e)))

pub collect-requires : goal.collect-requires
collect-requires t c =
    let a = c.args in
    let s = a.tables.now in
    let B = length (numbers s.rows) in
    let U = unpacked s.rows.links.now s.nodes.now in
    let K = walk_on B U a.untested a.reference c.requires.walkable (omega arith) in
    let parts = rw c.blocks-blocks.ensures at c.node-left.ensures in
    let e = parts.left in
    let f = parts.right in
    let one = c.collect-found in
    let rest = length-drop one.result one.new.scratch in
    let whole = length-take-le (length one.new.scratch - one.result) (drop one.result one.new.scratch) (omega arith) in
    let heads : ℕ → ℕ = λ r. length (heads_from B U (a.untested - 1) r) in
    (omega (arith, K.more, c.decreases), (subst (Walkable B U (a.untested - 1)) (sym f) K.right, omega (arith, c.requires.room, onward_count _ _ _ _ K, one.ensures.count, one.auto.scratch, ap heads e, ap heads f)))

pub returns : goal.returns
returns t c =
    let a = c.args in
    let s = a.tables.now in
    let K = walk_on (length (numbers s.rows)) (unpacked s.rows.links.now s.nodes.now) a.untested a.reference c.requires.walkable (omega arith) in
    let parts = rw c.blocks-blocks.ensures at c.node-left.ensures in
    let one = c.collect-found in
    let two = c.collect in
    let whole = onward_end _ _ _ _ K a.scratch.now one.new.scratch two.new.scratch _ _ _ _ parts.left parts.right c.requires.room one.ensures.count one.ensures.list two.ensures.count two.ensures.list in
    record { within = omega (arith, whole.0, c.requires.room); count = whole.0; list = whole.1 }
