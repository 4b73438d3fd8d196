-- `position` meets its contract: 993 * 255 fits a u32, and the remainder is below the width.
-- Assumes nothing.
use mathlib.Core.Path.{refl}
use Rattle.model.specs.Words.{triplet_position}
use Rattle.words.proofs.signer.Signer.position.Goals as goal

pub returns : goal.returns
unfolding triplet_position
returns c =
    rw (c.from.ensures, c.from-2.ensures, c.from-3.ensures) (refl, refl)
