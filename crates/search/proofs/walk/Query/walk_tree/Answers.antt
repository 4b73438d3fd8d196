-- `search::walk::Query::walk_tree` meets its contract: a root is a leaf, or the word that is read for it is walked.
-- Assumes nothing.
use mathlib.Core.Path.{sym, ◌∙◌}
use Rattle.search.proofs.Leaves.{leaf_block}
use Rattle.search.proofs.Steps.{walk_leaf}
use Rattle.search.proofs.Rows.{leaf_row}
use Rattle.search.proofs.Nodes.{walk_at}
use Rattle.search.proofs.walk.Query.walk_tree.Goals as goal

pub returns-then-is_leaf-clause-gives : goal.returns-then-is_leaf-clause-gives
returns-then-is_leaf-clause-gives g c =
    let t = c.args.self.now.tables in
    let r = c.root-root.ensures in
    let k = leaf_block _ _ t.fits.fits.blocks_to (rw r at (sym c.is_leaf.ensures ∙ c.if-is_leaf.true)) in
    rw r at c.leaf.ensures.gives ∙ sym (leaf_row _ _ _ t.fits.packs _ _ _ _) ∙ sym (walk_leaf _ _ _ _ _ _ _ k.1)

pub returns-clause-gives : goal.returns-clause-gives
returns-clause-gives g c =
    let t = c.args.self.now.tables in
    let r = c.root-root.ensures in
    rw c.args.self.now.width_read at c.walk.ensures.gives ∙ sym (walk_at _ _ _ t.fits.packs _ _ _ _ _ _ (rw r at (sym c.is_leaf.ensures ∙ c.if-is_leaf.false)) (rw r at c.word_at-word.ensures))
