-- `rebuild::rebuild` keeps its promise, with a law for each of its four returns: the heads are collected, the tree is built of them, and
-- the other nodes are freed.
-- Assumes nothing.
use Rattle.std.proofs.Common.{arith, refl, sym, ◌∙◌}
use Rattle.std.proofs.Math.ListN.{set, length-set}
use Rattle.rebuild.proofs.Packed.{packs_still, unfit_packed, short_packed, unsound_packed, rebuilt_packed_is, read_packs, read_promise, read_walk, read_room, read_heads, read_rows, read_blocks, read_count, read_lent, read_made}
use Rattle.rebuild.proofs.Whole.{few, as_long, beyond, asks_packed, whole_packed}
use Rattle.rebuild.proofs.rebuild.Goals as goal

pub returns-in_err-tables : goal.returns-in_err-tables
returns-in_err-tables c = unfit_packed _ _ _ _ _ _ c.from_residual.ensures c.in_err-tables.ensures.asked

pub returns-then-scratch-blocks : goal.returns-then-scratch-blocks
returns-then-scratch-blocks c =
    let t = c.in_ok-tables in
    short_packed _ _ _ _ t.ensures.asked (rw (read_blocks t.tables t.ensures.read) c.if-scratch-blocks.true)

pub returns-in_err-sound : goal.returns-in_err-sound
returns-in_err-sound c =
    let t = c.in_ok-tables in
    unsound_packed _ _ _ _ t.ensures.asked (rw (read_blocks t.tables t.ensures.read) c.if-scratch-blocks.false) _ _ c.from_residual-in_err-sound.ensures (read_promise t.tables t.ensures.read c.in_err-sound.ensures)

pub collect-heads-requires : goal.collect-heads-requires
collect-heads-requires c =
    let t = c.in_ok-tables in
    let told = c.in_ok-sound.ensures in
    record {
      walkable = read_walk t.tables t.ensures.read told c.width.ensures.value c.root.ensures;
      room = read_room t.tables t.ensures.read told c.width.ensures.value c.root.ensures _ c.if-scratch-blocks.false;
    }

pub invariant_of-rows : goal.invariant_of-rows
invariant_of-rows c =
    let t = c.in_ok-tables in
    record { fit = read_rows t.tables t.ensures.read }

pub build-requires : goal.build-requires
build-requires c =
    let t = c.in_ok-tables in
    let K = read_heads t.tables t.ensures.read c.in_ok-sound.ensures c.width.ensures.value c.root.ensures _ _ _ c.if-scratch-blocks.false c.collect-heads.ensures.count c.collect-heads.ensures.list in
    let P = read_packs t.tables t.ensures.read in
    let a = asks_packed _ _ _ P K in
    record { group = a.0; lengths = P.nodes_long; le_first = a.1 }

pub free_rest-requires : goal.free_rest-requires
free_rest-requires c =
    let t = c.in_ok-tables in
    let K = read_heads t.tables t.ensures.read c.in_ok-sound.ensures c.width.ensures.value c.root.ensures _ _ _ c.if-scratch-blocks.false c.collect-heads.ensures.count c.collect-heads.ensures.list in
    let P = read_packs t.tables t.ensures.read in
    let n = read_count t.tables t.ensures.read in
    (omega arith, omega (arith, few K, K.sound.fits.blocks_from), omega (arith, K.sound.fits.blocks_to), omega (arith, c.build.auto.nodes, P.nodes_long))

pub free_from-requires : goal.free_from-requires
free_from-requires c =
    let t = c.in_ok-tables in
    omega (arith, (read_rows t.tables t.ensures.read).rows.blocks_to, read_count t.tables t.ensures.read)

pub returns : goal.returns
returns c =
    let a = c.args in
    let t = c.in_ok-tables in
    let told = c.in_ok-sound.ensures in
    let K = read_heads t.tables t.ensures.read told c.width.ensures.value c.root.ensures _ _ _ c.if-scratch-blocks.false c.collect-heads.ensures.count c.collect-heads.ensures.list in
    let P = read_packs t.tables t.ensures.read in
    let n = read_count t.tables t.ensures.read in
    let l₂ = set (set a.links.now 2 c.reference-root.result) 3 c.free_from.result in
    let P₁ = packs_still P l₂ a.nodes.now (simp length-set refl) refl in
    let P₂ = packs_still P l₂ c.build.new.nodes (simp length-set refl) c.build.auto.nodes in
    rebuilt_packed_is _ _ _ _ t.ensures.asked (rw (read_blocks t.tables t.ensures.read) c.if-scratch-blocks.false) (read_lent t.tables t.ensures.read told)
    _ (read_blocks t.tables t.ensures.read ∙ sym n) P l₂ c.free_rest.new.nodes _
    (read_made t.tables t.ensures.read (whole_packed _ _ _ P K _ n _ _ _ l₂ _ _ (omega arith) c.reference-root.ensures c.free_from.ensures.value refl (c.build.ensures l₂ P₁) (c.free_rest.ensures l₂ (rw n at P₂))))
    (simp length-set refl) (c.free_rest.auto.nodes ∙ c.build.auto.nodes) (as_long K _ c.build.auto.group) (beyond K _ c.build.auto.group)
