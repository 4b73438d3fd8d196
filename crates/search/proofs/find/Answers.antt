-- `search::find` meets its contract: each return is a case of `found_twin`, and the walk leaves no more than it was lent.
-- Assumes nothing.
use borrow.Author.Rules.{rules}
use Prim.Native.Nat.{ℕ, ◌+◌}
use mathlib.Core.Path.{refl, sym, ◌∙◌, ap}
use native.Mathlib.Omega.{arith}
use Rattle.model.specs.Wide.{number_in}
use Rattle.tables.specs.Held.{signatures_held, held}
use Rattle.model.proofs.Packing.{front_word}
use Rattle.search.proofs.Returns.{marks_back, walked_rows, find_empty, find_unfit, find_list, walk_few, walk_found, used_read, report_same}
use Rattle.search.proofs.find.Goals as goal

pub returns-then-root-eq0-clause-gives : goal.returns-then-root-eq0-clause-gives
returns-then-root-eq0-clause-gives c =
    let t = c.args.tables.now in
    let d = c.default.ensures in
    marks_back _ _ _ _ _ (search rules)
    (find_empty _ _ _ _ _ _ (rw c.blocks-blocks.ensures at c.none-marks.ensures.cleared) _ (report_same _ _ _ _ _ _ d.0 d.1.0 d.1.1) (front_word _ _ _ t.fits.packs 2 (omega arith) ∙ sym c.root.ensures ∙ c.if-root-eq0.true))

pub returns-then-forks-eq0-clause-gives : goal.returns-then-forks-eq0-clause-gives
returns-then-forks-eq0-clause-gives c =
    let t = c.args.tables.now in
    marks_back _ _ _ _ _ (search rules)
    (find_unfit _ _ _ _ _ _ (rw c.blocks-blocks.ensures at c.none-marks.ensures.cleared) _ _ (rw c.blocks-blocks.ensures at c.lend.ensures) _ _ (walked_rows _ _ _ t.fits.packs _ _ _ _ c.walk_by-left.ensures.gives) refl (λ z. c.if-root-eq0.false (c.root.ensures ∙ sym (front_word _ _ _ t.fits.packs 2 (omega arith)) ∙ z)) (sym c.forks.ensures ∙ c.if-forks-eq0.true))

pub used-found-requires : goal.used-found-requires
used-found-requires c =
    let a = c.args in
    let t = c.args.tables.now in
    let f = walk_found (signatures_held t) (held t) (number_in a.query.now) a.marks.now _ (rw c.blocks-blocks.ensures at c.none-marks.ensures.cleared) _ (rw c.blocks-blocks.ensures at c.lend.ensures) _ _ (walked_rows _ _ _ t.fits.packs _ _ _ _ c.walk_by-left.ensures.gives) c.requires.room.0 (λ z. c.if-forks-eq0.false (c.forks.ensures ∙ z)) in
    omega (arith, f.0, c.blocks-2.ensures, c.blocks-blocks.ensures, t.rows.fit.rows.blocks_to)

pub list_marked-requires : goal.list_marked-requires
list_marked-requires c =
    let a = c.args in
    let t = c.args.tables.now in
    let f = walk_found (signatures_held t) (held t) (number_in a.query.now) a.marks.now _ (rw c.blocks-blocks.ensures at c.none-marks.ensures.cleared) _ (rw c.blocks-blocks.ensures at c.lend.ensures) _ _ (walked_rows _ _ _ t.fits.packs _ _ _ _ c.walk_by-left.ensures.gives) c.requires.room.0 (λ z. c.if-forks-eq0.false (c.forks.ensures ∙ z)) in
    let e = used_read _ _ _ _ c.used-found.ensures c.blocks-2.ensures in
    (omega (arith, c.blocks-blocks.ensures, t.rows.fit.rows.blocks_to), omega (arith, f.1, c.blocks-blocks.ensures), omega (arith, e, c.requires.room.1, c.blocks-blocks.ensures), e ∙ rw c.blocks-blocks.ensures f.2)

pub used-requires : goal.used-requires
used-requires c =
    let a = c.args in
    let t = c.args.tables.now in
    let f = walk_few (signatures_held t) (held t) (number_in a.query.now) a.marks.now _ (rw c.blocks-blocks.ensures at c.none-marks.ensures.cleared) _ (rw c.blocks-blocks.ensures at c.lend.ensures) _ _ (walked_rows _ _ _ t.fits.packs _ _ _ _ c.walk_by-left.ensures.gives) c.requires.room.0 in
    omega (arith, f.1, c.forks-2.ensures, c.blocks-blocks.ensures, t.rows.fit.rows.blocks_to)

pub used-requires-2 : goal.used-requires-2
used-requires-2 c =
    let a = c.args in
    let t = c.args.tables.now in
    let f = walk_few (signatures_held t) (held t) (number_in a.query.now) a.marks.now _ (rw c.blocks-blocks.ensures at c.none-marks.ensures.cleared) _ (rw c.blocks-blocks.ensures at c.lend.ensures) _ _ (walked_rows _ _ _ t.fits.packs _ _ _ _ c.walk_by-left.ensures.gives) c.requires.room.0 in
    omega (arith, f.0, c.nodes.ensures, c.blocks-blocks.ensures, t.rows.fit.rows.blocks_to)

pub returns-clause-gives : goal.returns-clause-gives
returns-clause-gives c =
    let t = c.args.tables.now in
    let b = c.blocks-blocks.ensures in
    let r = report_same _ _ _ _ _ _ (used_read _ _ _ _ c.used-found.ensures c.blocks-2.ensures) (ap (λ (n : ℕ). n + 1) (used_read _ _ _ _ c.used.ensures c.forks-2.ensures)) (used_read _ _ _ _ c.used-2.ensures c.nodes.ensures) in
    marks_back _ _ _ _ _ (search rules)
    (find_list _ _ _ _ _ _ (rw b at c.none-marks.ensures.cleared) _ _ (rw b at c.lend.ensures) _ _ (walked_rows _ _ _ t.fits.packs _ _ _ _ c.walk_by-left.ensures.gives) (λ z. c.if-root-eq0.false (c.root.ensures ∙ sym (front_word _ _ _ t.fits.packs 2 (omega arith)) ∙ z)) (λ z. c.if-forks-eq0.false (c.forks.ensures ∙ z)) (rw b at r) _ (rw b at c.list_marked.ensures))
