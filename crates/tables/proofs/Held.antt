-- The tables that are read, by the links that they hold: a word in front or in a row is read as it stands, and question 4 passes.
-- Assumes nothing.
use Prim.Native.Nat.{ℕ, ◌≤◌, ◌<◌}
use native.Mathlib.Omega.{arith}
use mathlib.Core.Path.{◌≡◌, sym}
use mathlib.Core.Bool.{true}
use Rattle.model.specs.Tables.{word, next_at, filed_at, next_of, filed_of, signatures_of}
use Rattle.model.specs.Questions.{asks_tables, tables_fit}
use Rattle.model.proofs.Packing.{row_word, front_word}
use Rattle.tables.specs.declared.packed.Tables.{Tables}
use Rattle.tables.specs.Fits.{FitsUnpacked}
use Rattle.tables.specs.Forms.{packed_held}
use Rattle.tables.specs.Held.{signatures_held, blocks_held, held}
use Rattle.tables.proofs.Fits.{true_fits}

module _ (t : Tables) where
  pub front : (a : ℕ) → a < 5 → word t.rows.links.now a ≡ word (held t) a
  front a h = sym (front_word (blocks_held t) t.rows.links.now t.nodes.now t.fits.packs a h)

  pub filed : (b : ℕ) → b ≤ blocks_held t → filed_of t.rows.links.now b ≡ filed_of (held t) b
  filed b h = sym (row_word t.rows.links.now t.nodes.now (filed_at b) (omega (arith, t.fits.packs.rows_long)))

  pub next : (b : ℕ) → b ≤ blocks_held t → next_of t.rows.links.now b ≡ next_of (held t) b
  next b h = sym (row_word t.rows.links.now t.nodes.now (next_at b) (omega (arith, t.fits.packs.rows_long)))

  pub fits : FitsUnpacked (signatures_held t) t.rows.signatures.now (held t)
  fits = packed_held (signatures_held t) t.rows.signatures.now t.rows.links.now t.nodes.now t.fits

  pub fit : tables_fit (asks_tables t.rows.signatures.now (held t)) ≡ true
  fit = true_fits t.rows.signatures.now (held t) (signatures_held t) fits

  -- the numbers are those that the words spell
  pub spelt : signatures_held t ≡ signatures_of t.rows.signatures.now (held t)
  spelt = t.fits.spelt
