-- `audit::answer::sound` meets its contract: the test decides soundness.
-- Assumes nothing.
use mathlib.Core.Path.{sym, ◌∙◌}
use Rattle.audit.proofs.Verdict.{told_sound, told_unsound}
use Rattle.audit.proofs.answer.sound.Goals as goal

pub returns-then-is_sound : goal.returns-then-is_sound
returns-then-is_sound g c = told_sound _ _ _ (g.met.F.Form.held_fit c.args.form.now) (sym c.is_sound.ensures ∙ c.if-is_sound.true)

pub returns-else-is_sound : goal.returns-else-is_sound
returns-else-is_sound g c = told_unsound _ _ _ (g.met.F.Form.held_fit c.args.form.now) (sym c.is_sound.ensures ∙ c.if-is_sound.false)
