-- `convert::unpack` keeps its promise.
-- Assumes nothing.
use Rattle.std.proofs.Common.{sym, ◌∙◌, refl, arith}
use Rattle.answers.proofs.Numbers.{number_some, passed_on}
use Rattle.audit.proofs.Asked.{unfit_packed}
use Rattle.convert.proofs.Opening.{answered_packed, refuses_tables, unpacks}
use Rattle.convert.proofs.unpack.Goals as goal

pub returns-in_err-tables : goal.returns-in_err-tables
returns-in_err-tables c =
    let n = number_some c.in_err-tables.field-0.0 in
    refuses_tables _ _ _ _ (sym c.unpack_fits.ensures ∙ c.if-not-unpack_fits.false) _ (unfit_packed _ _ _ c.in_err-tables.was c.from_residual.ensures _ c.of.ensures.asked) (λ z. omega (arith, passed_on _ _ c.from_residual.ensures))

pub returns : goal.returns
returns c =
    let t = c.in_ok-tables in
    let e = sym c.unpack_fits.ensures ∙ c.if-not-unpack_fits.false in
    unpacks _ _ _ _ e 0 (answered_packed t.ensures.read t.ensures.asked c.in_ok-sound.ensures) refl _ _ c.copy_words.ensures c.open_nodes.ensures
