-- `search::walk::Query::word_at` meets its contract: a test to each case of `word_at`.
-- Assumes nothing.
use native.Mathlib.Omega.{arith}
use mathlib.Core.Path.{◌∙◌, ap}
use Prim.Native.Nat.{ℕ, ◌-◌}
use lib.ListN.{get_or}
use Rattle.search.proofs.Nodes.{word_none, word_some}
use Rattle.search.proofs.walk.Query.word_at.Goals as goal

pub returns-then-nodes-at : goal.returns-then-nodes-at
returns-then-nodes-at g c =
    let t = c.args.self.now.tables in
    word_none _ _ _ c.requires (t.fits.packs.nodes_long, t.fits.fits.blocks_to) _ c.index_of.ensures (omega (arith, c.if-nodes-at.true, c.blocks-2.ensures))

pub returns : goal.returns
returns g c =
    let t = c.args.self.now.tables in
    ap (λ (n : ℕ). get_or t.nodes.now (c.index_of.result - n) 0) c.blocks-2.ensures ∙ word_some _ _ _ c.requires (t.fits.packs.nodes_long, t.fits.fits.blocks_to) _ c.index_of.ensures (omega (arith, c.if-nodes-at.false, c.blocks-2.ensures))
