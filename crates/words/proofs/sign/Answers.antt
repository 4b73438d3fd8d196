-- `sign` meets its promise: the refusal decides between the words as they were and those of the text's signature.
-- Assumes nothing.
use mathlib.Core.Path.{refl, ap₂, ◌∙◌}
use Prim.Native.Nat.{ℕ}
use native.Mathlib.Omega.{arith}
use Rattle.model.specs.Words.{text_signature}
use Rattle.words.proofs.Asked.{sign_done}
use Rattle.words.proofs.sign.Goals as goal

pub returns : goal.returns
returns c =
    let asked = c.in_ok-signer.ensures.asked in
    sign_done _ _ _ _ _ (omega arith) _ c.in_ok-signer.ensures.number c.sign.new.signature refl (λ i. (c.type_inv.signature i).fits) (omega (arith, asked.2))
    (c.sign.ensures ∙ ap₂ (λ (w k : ℕ). text_signature w k c.args.text.now) asked.0 asked.1)
