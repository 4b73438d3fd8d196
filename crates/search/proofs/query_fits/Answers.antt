-- `search::query_fits` meets its contract: at each return the tests that led there say which question refuses.
-- Assumes nothing.
use mathlib.Core.Path.{sym, ◌∙◌}
use borrow.Author.Tests.{eq-eqb, ne_eqb}
use Rattle.search.proofs.Asking.{ask_yes, ask_no}
use Rattle.search.proofs.query_fits.Goals as goal

pub returns-then-query-rows : goal.returns-then-query-rows
returns-then-query-rows c = sym (ask_no 4 _ _ (ne_eqb _ _ (λ e. c.if-query-rows.true (e ∙ sym c.args.rows.now.fit.each))))

pub returns-then-not-fits : goal.returns-then-not-fits
returns-then-not-fits c =
    let w = c.width.ensures.value in
    sym (ask_yes 4 _ _ (eq-eqb _ _ (c.if-query-rows.false ∙ c.args.rows.now.fit.each)) ∙ ask_no 6 _ _ (rw w at (sym c.fits.ensures ∙ c.if-not-fits.true)))

pub returns : goal.returns
returns c =
    let w = c.width.ensures.value in
    sym (ask_yes 4 _ _ (eq-eqb _ _ (c.if-query-rows.false ∙ c.args.rows.now.fit.each)) ∙ ask_yes 6 _ _ (rw w at (sym c.fits.ensures ∙ c.if-not-fits.false)))
