-- `file::file` meets its promise: the first no is the answer; without a plan it is 11; else the plan's stores are made.
-- Assumes nothing.
use native.Mathlib.Omega.{arith}
use mathlib.Core.Path.{◌≡◌}
use borrow.Author.Rules.{rules}
use Rattle.std.specs.Prelude.{None, Some}
use Rattle.answers.specs.Answers.{answer_of, number_of}
use Rattle.file.proofs.Promised.{some_number, refused_first, eleven, done}
use Rattle.file.proofs.file.Goals as goal

pub returns-in_err-read-clause-promise : goal.returns-in_err-read-clause-promise
returns-in_err-read-clause-promise c =
    let r : answer_of c.from_residual.result ≡ number_of c.in_err-read.field-0.0 = search rules in
    rw r (refused_first c.args.tables.now c.args.block c.args.signature.now _ (some_number c.in_err-read.field-0.0) c.in_err-read.ensures.asked)

pub returns-in_err-plan-clause-promise : goal.returns-in_err-plan-clause-promise
returns-in_err-plan-clause-promise c =
    let r : answer_of c.from_residual-in_err-plan.result ≡ 11 = search rules in
    let n : c.plan_filing.result ≡ None = grind arith in
    rw r (eleven c.args.tables.now c.args.block c.args.signature.now c.in_ok-read.ensures.asked c.in_ok-read.read c.in_ok-read.ensures.read c.in_ok-ask.ensures.number c.in_ok-ask.ensures.passed _ c.plan_filing.ensures.plans n)

pub returns-clause-promise : goal.returns-clause-promise
returns-clause-promise c =
    let n : c.plan_filing.result ≡ Some c.in_ok-plan.plan = grind arith in
    done c.args.tables.now c.args.block c.args.signature.now c.in_ok-read.ensures.asked c.in_ok-read.read c.in_ok-read.ensures.read c.in_ok-ask.ensures.number c.in_ok-ask.ensures.passed _ c.plan_filing.ensures.plans _ n _ c.carry_out.ensures _ c.set_signature.ensures
