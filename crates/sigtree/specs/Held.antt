-- What is lent to the slip reader as its contract writes it.
-- Assumes nothing.
use Rattle.std.specs.Prelude.{◌≡◌, length}
use Rattle.model.specs.PackedLists.{PackedMemory}
use Rattle.tables.specs.declared.lent.TablesMut.{TablesMut}
use Rattle.sigtree.specs.declared.work.Work.{Work}
use Rattle.sigtree.specs.Face.{lent}

-- what the slices hold
abbrev pub lent_in : TablesMut → Work → PackedMemory
lent_in t w = lent t.signatures.now t.links.now t.nodes.now w.scratch.now w.marks.now w.output.now

-- the references are those that they were, and the output is as long
pub record SameWork (old new : Work) : Type 0 where
  pub scratch : new.scratch.ghost_name ≡ old.scratch.ghost_name
  pub marks : new.marks.ghost_name ≡ old.marks.ghost_name
  pub output : new.output.ghost_name ≡ old.output.ghost_name
  pub output_long : length new.output.now ≡ length old.output.now
