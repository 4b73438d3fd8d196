-- `set` meets its contract: the bit is among the word's now, and so among the text's.
-- Assumes nothing.
use mathlib.Core.Path.{◌≡◌, sym, ap, ◌∙◌}
use Prim.Native.Nat.{ℕ, ◌-◌, ◌*◌, ◌%◌, ◌^◌}
use native.Mathlib.Nat.{one-mul}
use native.Mathlib.Omega.{arith}
use lib.Bits.{bit_or}
use lib.Pow.{shl_exact}
use Rattle.model.specs.Limits.{word_bits}
use Rattle.signature.proofs.Bits.{or_assoc}
use Rattle.words.proofs.draft.OneWordDraft.set.Goals as goal

pub returns-clause-signed : goal.returns-clause-signed
returns-clause-signed c =
    let d : ℕ = c.args.position.width - c.args.position.number in
    let low = c.args.position.inside.0 in
    let bit : (1 * 2 ^ d) % 2 ^ word_bits ≡ 2 ^ d = shl_exact {a = 1} 1 d word_bits (omega arith) (omega arith) ∙ one-mul (2 ^ d) in
    ap (λ (n : ℕ). bit_or c.args.self.now.before (bit_or c.args.self.now.own n)) bit ∙ sym (or_assoc c.args.self.now.before c.args.self.now.own (2 ^ d))
