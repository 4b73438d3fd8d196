-- `tables::TablesMut::left_of` meets its contract: the part of the node's word is the word among the links.
-- Assumes nothing.
use mathlib.Core.Path.{ap, sym, ◌∙◌}
use Rattle.model.specs.Packed.{left_in}
use Rattle.model.proofs.Packing.{node_left}
use Rattle.tables.proofs.lent.TablesMut.left_of.Goals as goal

pub returns : goal.returns
returns c = c.left_in.ensures ∙ ap left_in c.word_of.ensures ∙ sym (node_left _ _ _ c.requires.0.0 _ c.requires.1)
