-- `add_position` meets its contract: the position is set already, or it is a new one.
-- Assumes nothing.
use mathlib.Core.Path.{sym, ap, ◌∙◌, subst}
use mathlib.Core.List.{[], ◌∷◌, ◌++◌}
use Prim.Native.Nat.{ℕ, ◌+◌, ◌-◌, ◌^◌}
use lib.Bits.{bit_or}
use Rattle.signature.proofs.Bits.{bit_set, bit_clear, or_assoc}
use Rattle.words.specs.Pass.{Sets}
use Rattle.words.proofs.Setting.{sets_known, sets_fresh}
use Rattle.words.proofs.signer.Signer.add_position.Goals as goal

pub returns-then-has-clause-own : goal.returns-then-has-clause-own
returns-then-has-clause-own g c js s =
    let p = c.args.position in
    sets_known _ _ js _ _ _ p.inside.0 p.inside.1 s c.requires.1 (bit_set _ _ _ (sym c.has.ensures ∙ c.if-has.true))

pub returns-clause-own : goal.returns-clause-own
returns-clause-own g c js s =
    let p = c.args.position in
    subst (λ (n : ℕ). Sets p.width c.args.self.k (js ++ (p.number ∷ [])) n (c.args.count + 1)) (sym c.set.ensures.own)
    (sets_fresh _ _ js _ _ _ p.inside.0 p.inside.1 s c.requires.1 (bit_clear _ _ _ (sym c.has.ensures ∙ c.if-has.false)))

pub returns-clause-signed : goal.returns-clause-signed
returns-clause-signed g c before s =
    let bit : ℕ = 2 ^ (c.args.position.width - c.args.position.number) in
    c.set.ensures.signed ∙ ap (λ (n : ℕ). bit_or n bit) s ∙ or_assoc before (g.D.Draft.own c.args.draft.now) bit ∙ ap (bit_or before) (sym c.set.ensures.own)
