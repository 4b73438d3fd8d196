-- `tables::stores::set_word` meets its contract.
-- Assumes nothing.
use Prim.Native.Nat.{ℕ, ◌-◌, ◌/◌}
use mathlib.Core.Path.{◌∙◌, sym, ap}
use lib.ListN.{length, set}
use Rattle.model.specs.Packed.{unpacked}
use Rattle.model.proofs.Packing.{row_store}
use Rattle.tables.proofs.Addressed.{store_beyond}
use Rattle.tables.proofs.stores.set_word.Goals as goal

pub returns-then-at-links-clause-words : goal.returns-then-at-links-clause-words
returns-then-at-links-clause-words c = sym (row_store _ _ _ _ c.if-at-links.true)

pub returns-clause-words : goal.returns-clause-words
returns-clause-words c =
    let s = c.args in
    let n = s.at - length s.links.now in
    ap (λ (v : ℕ). unpacked s.links.now (set s.nodes.now (n / 3) v)) c.with_part.ensures ∙ store_beyond _ _ c.requires.packs.0 _ c.requires.packs.2 c.if-at-links.false _ c.requires.value_bound
