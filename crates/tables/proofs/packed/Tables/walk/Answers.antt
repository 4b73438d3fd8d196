-- `tables::Tables::walk` meets its contract: the walk at the tables' width, by the one word or by all words.
-- Assumes nothing.
use Prim.Native.Nat.{ℕ, ◌*◌, ◌≤◌, ◌<◌}
use native.Mathlib.Omega.{arith}
use mathlib.Core.Path.{◌≡◌, sym}
use Rattle.model.specs.Limits.{widest, most_blocks, word_bits}
use Rattle.model.specs.Wide.{word_count}
use Rattle.model.specs.Packed.{Packs}
use Rattle.model.proofs.Wide.{number_one}
use Rattle.tables.specs.declared.packed.Tables.{Tables}
use Rattle.tables.specs.Held.{blocks_held}
use Rattle.tables.proofs.packed.Tables.walk.Goals as goal

-- what the walk asks, at the tables' blocks and width, of a signature with room for so many positions
asks : (t : Tables) (B F places : ℕ) → B ≡ blocks_held t → F ≤ widest → F ≤ places → (B ≤ most_blocks) × (F ≤ widest) × (F ≤ places) × Packs B t.rows.links.now t.nodes.now
asks t B F places b h k = (omega (arith, b, t.rows.fit.rows.blocks_to), h, k, rw b t.fits.packs)

-- W words have room for the width
room : (F n : ℕ) → n ≡ word_count F → F ≤ word_bits * n
room F n e = omega arith

one_word : (F n : ℕ) → n ≡ word_count F → n < 2 → F ≤ word_bits
one_word F n e h = omega arith

pub walk-requires : goal.walk-requires
walk-requires c =
    let w = c.width-width.ensures in
    asks c.args.self.now _ _ _ c.blocks-blocks.ensures w.bound.1 (rw w.value (one_word _ _ c.requires c.in-len1.len_below))

pub walk-requires-2 : goal.walk-requires-2
walk-requires-2 c =
    let w = c.width-width.ensures in
    asks c.args.self.now _ _ _ c.blocks-blocks.ensures w.bound.1 (rw w.value (room _ _ c.requires))

pub returns-in-len1 : goal.returns-in-len1
returns-in-len1 c =
    let l = c.in-len1.len_at_least in
    let n = number_one c.args.signature.now (omega (arith, c.in-len1.len_below)) in
    let w = c.walk.ensures in
    rw (sym c.blocks-blocks.ensures, sym c.width-width.ensures.value, n) (record { ends = w.ends; taken = w.taken; inside = w.inside; held = w.held })

pub returns : goal.returns
returns c =
    let w = c.walk-2.ensures in
    rw (sym c.blocks-blocks.ensures, sym c.width-width.ensures.value) (record { ends = w.ends; taken = w.taken; inside = w.inside; held = w.held })
