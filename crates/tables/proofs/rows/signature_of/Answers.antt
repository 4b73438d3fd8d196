-- `tables::rows::signature_of` meets its contract: the part is the block's words.
-- Assumes nothing.
use Prim.Native.Nat.{ℕ, ◌+◌, ◌-◌, ◌*◌}
use native.Mathlib.Omega.{arith}
use mathlib.Core.Path.{◌≡◌, ap, ◌∙◌}
use lib.ListN.{take, drop}
use Rattle.model.specs.Wide.{number_in}
use Rattle.model.proofs.Wide.{own_number}
use Rattle.tables.proofs.rows.signature_of.Goals as goal

size : (a n : ℕ) → a + n - a ≡ n
size a n = omega arith

pub returns-clause-number : goal.returns-clause-number
returns-clause-number c B k =
    let s = c.args in
    let a = (s.block - 1) * s.words in
    ap (λ (n : ℕ). number_in (take n (drop a s.signatures.now))) (size a s.words) ∙ own_number s.words B s.signatures.now s.block c.requires.0 k
