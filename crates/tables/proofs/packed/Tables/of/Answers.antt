-- `tables::packed::Tables::of` meets its contract: a yes to the lengths, to words 0 and 1 and to the signatures is question 4's yes.
-- Assumes nothing.
use mathlib.Core.Path.{sym, ◌∙◌}
use Rattle.tables.proofs.Fits.{packed_asked_yes, packed_asked_lengths, packed_asked_words, packed_asked_long, packed_rows, packed_said}
use Rattle.tables.proofs.packed.Tables.of.Goals as goal
use Rattle.tables.proofs.packed.Tables.of.Goals.{then-not-lengths_fit-via-then-not-lengths_fit, then-not-lengths_fit-via-else-not-lengths_fit+then-not-words_fit}

pub returns-then-not-lengths_fit-clause-asked : goal.returns-then-not-lengths_fit-clause-asked
returns-then-not-lengths_fit-clause-asked c =
    let s = c.args in
    elim c.then-not-lengths_fit.branch [
      | then-not-lengths_fit-via-then-not-lengths_fit w ↦ packed_asked_lengths s.signatures.now s.links.now s.nodes.now (sym c.lengths_fit.ensures ∙ w.if-not-lengths_fit.true)
      | then-not-lengths_fit-via-else-not-lengths_fit+then-not-words_fit w ↦
          packed_asked_words s.signatures.now s.links.now s.nodes.now (sym c.lengths_fit.ensures ∙ w.if-not-lengths_fit.false) _ c.packed_blocks-blocks.ensures (sym w.words_fit.ensures ∙ w.if-not-words_fit.true)
    ]

pub returns-then-not-signatures_fit-clause-asked : goal.returns-then-not-signatures_fit-clause-asked
returns-then-not-signatures_fit-clause-asked c =
    let s = c.args in
    packed_asked_long s.signatures.now s.links.now s.nodes.now (sym c.lengths_fit.ensures ∙ c.if-not-lengths_fit.false) _ c.packed_blocks-blocks.ensures (sym c.words_fit.ensures ∙ c.if-not-words_fit.false)
    (sym c.signatures_fit.ensures ∙ c.if-not-signatures_fit.true)

pub invariant_of-rows : goal.invariant_of-rows
invariant_of-rows c =
    let s = c.args in
    record {
      fit =
          packed_rows s.signatures.now s.links.now s.nodes.now (sym c.lengths_fit.ensures ∙ c.if-not-lengths_fit.false) _ c.packed_blocks-blocks.ensures _ c.words_of.ensures.value
          (sym c.words_fit.ensures ∙ c.if-not-words_fit.false) (sym c.signatures_fit.ensures ∙ c.if-not-signatures_fit.false);
    }

pub invariant_of-result : goal.invariant_of-result
invariant_of-result c =
    let s = c.args in
    record {
      fits =
          packed_said s.signatures.now s.links.now s.nodes.now (sym c.lengths_fit.ensures ∙ c.if-not-lengths_fit.false) _ c.packed_blocks-blocks.ensures _ c.words_of.ensures.value
          (sym c.words_fit.ensures ∙ c.if-not-words_fit.false) (sym c.signatures_fit.ensures ∙ c.if-not-signatures_fit.false);
    }

pub returns-clause-asked : goal.returns-clause-asked
returns-clause-asked c =
    let s = c.args in
    packed_asked_yes s.signatures.now s.links.now s.nodes.now (sym c.lengths_fit.ensures ∙ c.if-not-lengths_fit.false) _ c.packed_blocks-blocks.ensures (sym c.words_fit.ensures ∙ c.if-not-words_fit.false)
    (sym c.signatures_fit.ensures ∙ c.if-not-signatures_fit.false)
