-- `signer` meets its contract: the questions are asked in the definition's order.
-- Assumes nothing.
use mathlib.Core.Path.{◌≡◌, sym, ◌∙◌}
use mathlib.Core.Logic.{◌⊎◌, ⊎_elim}
use Prim.Native.Nat.{◌<◌, ◌≤◌}
use native.Mathlib.Omega.{arith}
use borrow.Author.Rules.{rules}
use Rattle.std.proofs.lemmas.Bool.Decides.{nat_tests}
use Rattle.answers.specs.Answers.{answer_of, number_of}
use Rattle.model.specs.Wide.{word_count}
use Rattle.model.specs.Words.{most_positions}
use Rattle.words.proofs.Asked.{text_long, unfit, not_lent, long, few, many, passed}
use Rattle.words.proofs.question.signer.Goals as goal
use Rattle.words.proofs.question.signer.Goals.{then-not-is_width-via-then-not-is_width, then-not-is_width-via-else-not-is_width+then-lent-words_of}

pub returns-then-not-is_width-clause-number : goal.returns-then-not-is_width-clause-number
returns-then-not-is_width-clause-number c =
    elim c.then-not-is_width.branch [
      | then-not-is_width-via-then-not-is_width w ↦ unfit c.args.width _ _ _ (sym c.is_width.ensures ∙ w.if-not-is_width.true)
      | then-not-is_width-via-else-not-is_width+then-lent-words_of w ↦
          not_lent c.args.width _ _ _ (sym c.is_width.ensures ∙ w.if-not-is_width.false) (omega (arith, w.words_of.ensures.value))
    ]

pub returns-in_err-word_asks-clause-number : goal.returns-in_err-word_asks-clause-number
returns-in_err-word_asks-clause-number c =
    let fits = sym c.is_width.ensures ∙ c.if-not-is_width.false in
    let lent : c.args.lent ≡ word_count c.args.width = omega (arith, c.words_of.ensures.value) in
    let e = c.in_err-word_asks.ensures in
    let r : answer_of c.from_residual.result ≡ number_of c.in_err-word_asks.field-0.0 = search rules in
    r ∙ e.number ∙ sym (text_long _ e.refused) ∙ long _ _ _ _ fits lent e.refused

pub returns-then-not-contains-clause-number : goal.returns-then-not-contains-clause-number
returns-then-not-contains-clause-number c =
    let fits = sym c.is_width.ensures ∙ c.if-not-is_width.false in
    let lent : c.args.lent ≡ word_count c.args.width = omega (arith, c.words_of.ensures.value) in
    let h : (c.args.k < 1) ⊎ (most_positions < c.args.k) = grind (arith, nat_tests) in
    let e = c.in_ok-word_asks.ensures in
    ⊎_elim (few _ _ _ _ fits lent e.passed) (many _ _ _ _ fits lent e.passed) h

pub returns-clause-number : goal.returns-clause-number
returns-clause-number c =
    let fits = sym c.is_width.ensures ∙ c.if-not-is_width.false in
    let lent : c.args.lent ≡ word_count c.args.width = omega (arith, c.words_of.ensures.value) in
    let h : (1 ≤ c.args.k) × (c.args.k ≤ most_positions) = search rules in
    passed _ _ _ _ fits lent c.in_ok-word_asks.ensures.passed h.0 h.1
