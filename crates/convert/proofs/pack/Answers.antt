-- `convert::pack` keeps its promise.
-- Assumes nothing.
use Rattle.std.proofs.Common.{sym, ◌∙◌, refl, arith}
use Rattle.answers.proofs.Numbers.{number_some, passed_on}
use Rattle.audit.proofs.Asked.{unfit_unpacked, answered_unpacked}
use Rattle.model.proofs.Packing.{blocks_told}
use Rattle.convert.proofs.Closing.{sound_nodes, packed_is, pack_tables, packs_all}
use Rattle.convert.proofs.pack.Goals as goal

pub returns-in_err-tables : goal.returns-in_err-tables
returns-in_err-tables c =
    let n = number_some c.in_err-tables.field-0.0 in
    pack_tables _ _ _ _ (sym c.pack_fits.ensures ∙ c.if-not-pack_fits.false) _ (unfit_unpacked _ _ _ c.in_err-tables.was c.from_residual.ensures c.of.ensures.asked) (λ z. omega (arith, passed_on _ _ c.from_residual.ensures))

pub returns-in_err-sound : goal.returns-in_err-sound
returns-in_err-sound c =
    let n = number_some c.in_err-sound.field-0.0 in
    let t = c.in_ok-tables in
    let p = passed_on _ _ c.from_residual-in_err-sound.ensures in
    pack_tables _ _ _ _ (sym c.pack_fits.ensures ∙ c.if-not-pack_fits.false) _ (rw p (answered_unpacked t.ensures.read c.in_err-sound.ensures)) (λ z. omega (arith, p))

pub close_nodes-requires-clause-nodes_fit : goal.close_nodes-requires-clause-nodes_fit
close_nodes-requires-clause-nodes_fit c =
    let t = c.in_ok-tables.tables in
    rw (blocks_told t.rows.links.now _ t.fits.fits.links_long) at (sound_nodes t.rows.signatures.now t.rows.links.now (answered_unpacked (refl, refl) c.in_ok-sound.ensures))

pub returns : goal.returns
returns c =
    let t = c.in_ok-tables in
    let e = sym c.pack_fits.ensures ∙ c.if-not-pack_fits.false in
    packs_all _ _ _ _ e 0 (answered_unpacked t.ensures.read c.in_ok-sound.ensures) refl _ _ c.copy_words.ensures (packed_is _ _ _ _ t.tables.fits.fits.links_long t.ensures.read.1 c.close_nodes.ensures)
