-- `tables::form::TablesForm::node` meets its contract: the parts of the word are the node's words.
-- Assumes nothing.
use mathlib.Core.Path.{◌∙◌, ap, sym}
use Rattle.model.specs.Packed.{position_in, left_in, right_in}
use Rattle.model.proofs.Packing.{node_position, node_left, node_right}
use Rattle.tables.proofs.form.TablesForm.node.Goals as goal

pub returns : goal.returns
returns c =
    let P = c.args.self.now.fits.packs in
    let parts = c.into.ensures in
    record {
      position = parts.0 ∙ ap position_in c.word_of.ensures ∙ sym (node_position _ _ _ P _ c.requires.0);
      left = parts.1 ∙ ap left_in c.word_of.ensures ∙ sym (node_left _ _ _ P _ c.requires.0);
      right = parts.2 ∙ ap right_in c.word_of.ensures ∙ sym (node_right _ _ _ P _ c.requires.0);
    }
