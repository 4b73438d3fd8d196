-- `split::build` meets its contract: it calls itself on each half of the group, whose nodes follow its own. The measure is the
-- group's length.
-- Assumes nothing.
use Rattle.std.proofs.Common.{arith, ◌≡◌, sym, ◌∙◌, ap, length}
use Rattle.split.proofs.Halves.{known, bounds, node_fits, left_asks, right_asks, rest, finish, few}
use Rattle.model.specs.Packed.{unpacked, Packs}
use Rattle.model.proofs.Packing.{node_store}
use Rattle.model.specs.Tables.{width_of}
use Rattle.tables.specs.Rows.{numbers}
use Rattle.split.proofs.+build.Goals as goal

pub returns-then-size-lt2 : goal.returns-then-size-lt2
returns-then-size-lt2 t c links P =
    let a = c.args in
    few (width_of a.rows.now.links.now) (numbers a.rows.now) a.group.now a.first (unpacked links a.nodes.now) c.if-size-lt2.true

pub bounds-group-low : goal.bounds-group-low
bounds-group-low t c =
    let K = known c.decreases c.requires.group c.args.rows.now.fit.rows.blocks_to c.requires.lengths c.requires.le_first c.halve-position.ensures c.if-size-lt2.false in
    omega (arith, bounds K)

pub set_node-requires-clause-parts_fit : goal.set_node-requires-clause-parts_fit
set_node-requires-clause-parts_fit t c =
    let K = known c.decreases c.requires.group c.args.rows.now.fit.rows.blocks_to c.requires.lengths c.requires.le_first c.halve-position.ensures c.if-size-lt2.false in
    node_fits K _ _ (rw c.blocks-blocks.ensures at c.reference-left.ensures) (rw c.blocks-blocks.ensures at c.reference-right.ensures)

pub build-requires : goal.build-requires
build-requires t c =
    let K = known c.decreases c.requires.group c.args.rows.now.fit.rows.blocks_to c.requires.lengths c.requires.le_first c.halve-position.ensures c.if-size-lt2.false in
    left_asks K c.set_node.new.nodes c.set_node.auto.nodes

pub build-requires-2 : goal.build-requires-2
build-requires-2 t c =
    let K = known c.decreases c.requires.group c.args.rows.now.fit.rows.blocks_to c.requires.lengths c.requires.le_first c.halve-position.ensures c.if-size-lt2.false in
    right_asks K c.build.new.group c.build.auto.group c.build.new.nodes (c.build.auto.nodes ∙ c.set_node.auto.nodes)

pub returns : goal.returns
returns t c links P =
    let K = known c.decreases c.requires.group c.args.rows.now.fit.rows.blocks_to c.requires.lengths c.requires.le_first c.halve-position.ensures c.if-size-lt2.false in
    let a = c.args in
    let sigs = numbers a.rows.now in
    let one = c.build in
    let two = c.build-2 in
    let left = rw c.blocks-blocks.ensures at c.reference-left.ensures in
    let right = rw c.blocks-blocks.ensures at c.reference-right.ensures in
    let n0 = c.set_node.new.nodes in
    let n1 = one.new.nodes in
    let fit = node_fits K _ _ left right in
    let e = rest K one.new.group one.auto.group in
    let k0 : length n0 ≡ length a.nodes.now = c.set_node.auto.nodes in
    let k1 : length n1 ≡ length n0 = one.auto.nodes in
    let P0 : Packs (length sigs) links n0 = record { rows_long = P.rows_long; nodes_long = omega (arith, P.nodes_long) } in
    let P1 : Packs (length sigs) links n1 = record { rows_long = P.rows_long; nodes_long = omega (arith, P.nodes_long) } in
    let e0 = ap (unpacked links) c.set_node.ensures ∙ sym (node_store _ links a.nodes.now P a.first _ c.reference-left.result c.reference-right.result K.node.0 (omega (arith, bounds K)) fit.1 fit.2) in
    finish K (unpacked links a.nodes.now) c.reference-left.result c.reference-right.result (unpacked links n0) (unpacked links n1) (unpacked links two.new.nodes)
    left right e0 (one.ensures links P0) (rw e at (two.ensures links P1))
