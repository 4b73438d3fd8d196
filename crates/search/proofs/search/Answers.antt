-- `search::search` meets its contract: the first no decides, and what `find` gives keeps the promise.
-- Assumes nothing.
use native.Mathlib.Omega.{arith}
use Rattle.std.proofs.lemmas.Result.{err_from_is_err_and}
use Rattle.search.proofs.Asking.{buffers_passed, query_passed}
use Rattle.search.proofs.Promise.{refused_unfit, refused_query, refused_buffers, passed}
use Rattle.search.proofs.search.Goals as goal

pub returns-in_err-tables-clause-promise : goal.returns-in_err-tables-clause-promise
returns-in_err-tables-clause-promise c =
    let p = err_from_is_err_and c.from_residual.result c.from_residual.ensures.1 in
    rw (p.1, p.2) (refused_unfit _ _ _ _ _ _ _ c.in_err-tables.ensures.asked)

pub returns-in_err-query_fits-clause-promise : goal.returns-in_err-query_fits-clause-promise
returns-in_err-query_fits-clause-promise c =
    let p = err_from_is_err_and c.from_residual-in_err-query_fits.result c.from_residual-in_err-query_fits.ensures.1 in
    let t = c.in_ok-tables.ensures in
    rw (p.1, p.2) (refused_query _ _ _ _ _ _ c.in_ok-tables.tables t.read t.asked _ c.in_err-query_fits.ensures)

pub returns-in_err-buffers_fit-clause-promise : goal.returns-in_err-buffers_fit-clause-promise
returns-in_err-buffers_fit-clause-promise c =
    let p = err_from_is_err_and c.from_residual-in_err-buffers_fit.result c.from_residual-in_err-buffers_fit.ensures.1 in
    let t = c.in_ok-tables.ensures in
    rw (p.1, p.2) (refused_buffers _ _ _ _ _ _ c.in_ok-tables.tables t.read t.asked c.in_ok-query_fits.ensures _ (rw c.blocks-2.ensures at c.in_err-buffers_fit.ensures))

pub find-requires-clause-query : goal.find-requires-clause-query
find-requires-clause-query c = query_passed c.in_ok-tables.tables.rows.links.now _ c.in_ok-query_fits.ensures

pub find-requires-clause-room : goal.find-requires-clause-room
find-requires-clause-room c =
    let b = buffers_passed _ _ _ c.in_ok-buffers_fit.ensures in
    (omega (arith, c.blocks-2.ensures, b.0), omega (arith, c.blocks-2.ensures, b.1))

pub returns-clause-promise : goal.returns-clause-promise
returns-clause-promise c =
    let t = c.in_ok-tables.ensures in
    passed _ _ _ _ _ _ c.in_ok-tables.tables t.read t.asked c.in_ok-query_fits.ensures (rw c.blocks-2.ensures at c.in_ok-buffers_fit.ensures) _ c.find.ensures.gives
