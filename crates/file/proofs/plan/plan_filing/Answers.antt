-- `file::plan::plan_filing` meets its contract: each return has a law of its own.
-- Assumes nothing.
use native.Mathlib.Omega.{arith}
use mathlib.Core.Path.{refl, sym, ◌∙◌}
use borrow.Author.Tests.{eqb-true, eqb-false}
use Rattle.model.proofs.Asking.{in_range}
use Rattle.tables.proofs.Held.{front}
use Rattle.file.proofs.Planned.{words_read, plan_full, plan_first, plan_lost, plan_no_leaf, plan_join, plan_split}
use Rattle.file.proofs.plan.plan_filing.Goals as goal

pub returns-then-blocks-count-clause-plans : goal.returns-then-blocks-count-clause-plans
returns-then-blocks-count-clause-plans c = plan_full c.args.tables.now _ _ c.requires (omega (arith, c.blocks-blocks.ensures, c.count.ensures))

pub returns-then-root-eq0-clause-plans : goal.returns-then-root-eq0-clause-plans
returns-then-root-eq0-clause-plans c = plan_first c.args.tables.now _ _ c.requires (sym c.root.ensures ∙ c.if-root-eq0.true)

pub returns-then-root-eq0-clause-within : goal.returns-then-root-eq0-clause-within
returns-then-root-eq0-clause-within c = omega (arith, c.blocks-blocks.ensures, c.count.ensures, front c.args.tables.now 4 (omega arith))

pub returns-in_err-walked-clause-plans : goal.returns-in_err-walked-clause-plans
returns-in_err-walked-clause-plans c = rw c.from_residual.ensures (plan_lost c.args.tables.now _ _ c.requires _ c.in_err-walked.ensures.ends)

pub returns-then-not-is_block-clause-plans : goal.returns-then-not-is_block-clause-plans
returns-then-not-is_block-clause-plans c =
    plan_no_leaf c.args.tables.now _ _ c.requires (λ z. c.if-root-eq0.false (c.root.ensures ∙ z)) c.in_ok-walked.walked c.in_ok-walked.ensures.ends c.in_ok-walked.ensures.held
    (rw c.blocks-blocks.ensures at (sym c.is_block.ensures ∙ c.if-not-is_block.true))

pub walk-requires : goal.walk-requires
walk-requires c = c.requires.long ∙ words_read c.args.tables.now _ refl

pub same-requires : goal.same-requires
same-requires c =
    let l = c.signature_of-other.ensures.long in
    let e = c.requires.long ∙ words_read c.args.tables.now _ refl in
    (omega (arith, l, e), l.0 ∙ sym e)

pub returns-then-same-clause-plans : goal.returns-then-same-clause-plans
returns-then-same-clause-plans c =
    plan_join c.args.tables.now _ _ c.requires (λ z. c.if-root-eq0.false (c.root.ensures ∙ z)) c.in_ok-walked.walked c.in_ok-walked.ensures.ends c.in_ok-walked.ensures.held
    (rw c.blocks-blocks.ensures at (sym c.is_block.ensures ∙ c.if-not-is_block.false)) _ c.signature_of-other.ensures.number (eqb-true _ _ (sym c.same.ensures ∙ c.if-same.true))

pub returns-then-same-clause-within : goal.returns-then-same-clause-within
returns-then-same-clause-within c =
    let r = in_range _ c.blocks-blocks.result (sym c.is_block.ensures ∙ c.if-not-is_block.false) in
    (omega (arith, c.blocks-blocks.ensures, c.count.ensures, front c.args.tables.now 4 (omega arith)), r.0, omega (arith, r.1, c.blocks-blocks.ensures))

pub plan_split-requires-clause-long : goal.plan_split-requires-clause-long
plan_split-requires-clause-long c =
    (c.requires.long, c.signature_of-other.ensures.long.0 ∙ sym (words_read c.args.tables.now _ refl))

pub plan_split-requires-clause-differ : goal.plan_split-requires-clause-differ
plan_split-requires-clause-differ c = (c.requires.small, eqb-false _ _ (sym c.same.ensures ∙ c.if-same.false))

pub plan_split-requires-clause-inside : goal.plan_split-requires-clause-inside
plan_split-requires-clause-inside c =
    let r = in_range _ c.blocks-blocks.result (sym c.is_block.ensures ∙ c.if-not-is_block.false) in
    (omega (arith, c.blocks-blocks.ensures, c.count.ensures, front c.args.tables.now 4 (omega arith)), c.in_ok-walked.ensures.inside.0, omega (arith, r.1, c.blocks-blocks.ensures))

pub returns-clause-plans : goal.returns-clause-plans
returns-clause-plans c =
    plan_split c.args.tables.now _ _ c.requires (λ z. c.if-root-eq0.false (c.root.ensures ∙ z)) c.in_ok-walked.walked c.in_ok-walked.ensures.ends c.in_ok-walked.ensures.held
    (rw c.blocks-blocks.ensures at (sym c.is_block.ensures ∙ c.if-not-is_block.false)) _ c.signature_of-other.ensures.number (eqb-false _ _ (sym c.same.ensures ∙ c.if-same.false)) _ c.plan_split.ensures.splits
