-- What is lent stays lent: nothing happened to the references, or some calls kept them.
-- Assumes nothing.
use mathlib.Core.Path.{refl, ◌∙◌}
use Rattle.tables.specs.declared.lent.TablesMut.{TablesMut}
use Rattle.tables.specs.Changed.{SameLoans}
use Rattle.sigtree.specs.declared.work.Work.{Work}
use Rattle.sigtree.specs.Held.{SameWork}

abbrev pub Same : TablesMut → Work → TablesMut → Work → Type 0
Same t w t' w' = SameLoans t t' × SameWork w w'

pub same_none : (t : TablesMut) (w : Work) → Same t w t w
same_none t w = (record { signatures = refl; links = refl; nodes = refl }, record { scratch = refl; marks = refl; output = refl; output_long = refl })

pub same_more : (t t₁ t₂ : TablesMut) (w w₁ w₂ : Work) → Same t w t₁ w₁ → Same t₁ w₁ t₂ w₂ → Same t w t₂ w₂
same_more t t₁ t₂ w w₁ w₂ a b = (
  record { signatures = b.0.signatures ∙ a.0.signatures; links = b.0.links ∙ a.0.links; nodes = b.0.nodes ∙ a.0.nodes },
  record { scratch = b.1.scratch ∙ a.1.scratch; marks = b.1.marks ∙ a.1.marks; output = b.1.output ∙ a.1.output; output_long = b.1.output_long ∙ a.1.output_long },
)
