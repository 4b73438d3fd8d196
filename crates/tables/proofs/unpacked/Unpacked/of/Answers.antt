-- `tables::unpacked::Unpacked::of` meets its contract: a yes to the length, to words 0 and 1 and to the signatures is question 4's yes.
-- Assumes nothing.
use mathlib.Core.Path.{sym, ◌∙◌}
use Rattle.tables.proofs.Fits.{asked_yes, asked_lengths, asked_words, asked_long, rows_said, tables_said}
use Rattle.tables.proofs.unpacked.Unpacked.of.Goals as goal
use Rattle.tables.proofs.unpacked.Unpacked.of.Goals.{then-not-unpacked_lengths-via-then-not-unpacked_lengths, then-not-unpacked_lengths-via-else-not-unpacked_lengths+then-not-words_fit}

pub returns-then-not-unpacked_lengths-clause-asked : goal.returns-then-not-unpacked_lengths-clause-asked
returns-then-not-unpacked_lengths-clause-asked c =
    let s = c.args in
    elim c.then-not-unpacked_lengths.branch [
      | then-not-unpacked_lengths-via-then-not-unpacked_lengths w ↦ asked_lengths s.signatures.now s.links.now (sym c.unpacked_lengths.ensures ∙ w.if-not-unpacked_lengths.true)
      | then-not-unpacked_lengths-via-else-not-unpacked_lengths+then-not-words_fit w ↦
          asked_words s.signatures.now s.links.now (sym c.unpacked_lengths.ensures ∙ w.if-not-unpacked_lengths.false) _ c.unpacked_blocks-blocks.ensures (sym w.words_fit.ensures ∙ w.if-not-words_fit.true)
    ]

pub returns-then-not-signatures_fit-clause-asked : goal.returns-then-not-signatures_fit-clause-asked
returns-then-not-signatures_fit-clause-asked c =
    let s = c.args in
    asked_long s.signatures.now s.links.now (sym c.unpacked_lengths.ensures ∙ c.if-not-unpacked_lengths.false) _ c.unpacked_blocks-blocks.ensures (sym c.words_fit.ensures ∙ c.if-not-words_fit.false)
    (sym c.signatures_fit.ensures ∙ c.if-not-signatures_fit.true)

pub invariant_of-rows : goal.invariant_of-rows
invariant_of-rows c =
    let s = c.args in
    record {
      fit =
          rows_said s.signatures.now s.links.now (sym c.unpacked_lengths.ensures ∙ c.if-not-unpacked_lengths.false) _ c.unpacked_blocks-blocks.ensures _ c.words_of.ensures.value
          (sym c.words_fit.ensures ∙ c.if-not-words_fit.false) (sym c.signatures_fit.ensures ∙ c.if-not-signatures_fit.false);
    }

pub invariant_of-result : goal.invariant_of-result
invariant_of-result c =
    let s = c.args in
    record {
      fits =
          tables_said s.signatures.now s.links.now (sym c.unpacked_lengths.ensures ∙ c.if-not-unpacked_lengths.false) _ c.unpacked_blocks-blocks.ensures _ c.words_of.ensures.value
          (sym c.words_fit.ensures ∙ c.if-not-words_fit.false) (sym c.signatures_fit.ensures ∙ c.if-not-signatures_fit.false);
    }

pub returns-clause-asked : goal.returns-clause-asked
returns-clause-asked c =
    let s = c.args in
    asked_yes s.signatures.now s.links.now (sym c.unpacked_lengths.ensures ∙ c.if-not-unpacked_lengths.false) _ c.unpacked_blocks-blocks.ensures (sym c.words_fit.ensures ∙ c.if-not-words_fit.false)
    (sym c.signatures_fit.ensures ∙ c.if-not-signatures_fit.false)
