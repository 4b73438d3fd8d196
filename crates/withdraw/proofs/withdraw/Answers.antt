-- `withdraw::withdraw` meets its promise: the first no is the answer, and else the plan's stores are made.
-- Assumes nothing.
use native.Mathlib.Omega.{arith}
use mathlib.Core.Path.{◌≡◌}
use borrow.Author.Rules.{rules}
use Rattle.std.specs.Prelude.{None, Some}
use Rattle.answers.specs.Answers.{answer_of, number_of}
use Rattle.tables.proofs.Rowed.{block_inside, some_word}
use Rattle.withdraw.proofs.Promised.{some_number, refused_first, eleven, done}
use Rattle.withdraw.proofs.withdraw.Goals as goal

pub returns-in_err-read-clause-promise : goal.returns-in_err-read-clause-promise
returns-in_err-read-clause-promise c =
    let r : answer_of c.from_residual.result ≡ number_of c.in_err-read.field-0.0 = search rules in
    rw r (refused_first c.args.tables.now c.args.block _ (some_number c.in_err-read.field-0.0) c.in_err-read.ensures.asked)

pub returns-in_err-plan-clause-promise : goal.returns-in_err-plan-clause-promise
returns-in_err-plan-clause-promise c =
    let r : answer_of c.from_residual-in_err-plan.result ≡ 11 = search rules in
    let n : c.plan_block.result ≡ None = grind arith in
    rw r (eleven c.args.tables.now c.args.block c.in_ok-read.ensures.asked c.in_ok-read.read c.in_ok-read.ensures.read c.in_ok-ask.ensures.number _ c.plan_block.ensures.right n)

pub clear_signature-requires : goal.clear_signature-requires
clear_signature-requires c =
    let P = c.in_ok-ask.ensures.passed in
    let r = c.in_ok-read.read.rows in
    (P.from, rw (c.carry_out.ensures.signatures, ← c.in_ok-read.ensures.read.0) (block_inside r _ P.to), some_word r)

pub returns-clause-promise : goal.returns-clause-promise
returns-clause-promise c =
    let n : c.plan_block.result ≡ Some c.in_ok-plan.plan = grind arith in
    done c.args.tables.now c.args.block c.in_ok-read.ensures.asked c.in_ok-read.read c.in_ok-read.ensures.read c.in_ok-ask.ensures.number _ c.plan_block.ensures.right c.in_ok-ask.ensures.passed _ n _ c.carry_out.ensures _ c.clear_signature.ensures
