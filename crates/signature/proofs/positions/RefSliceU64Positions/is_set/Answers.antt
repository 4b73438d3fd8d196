-- A position of words is set where its bit is: bit k of the number is bit k % 64 of word k / 64 from the low end.
-- Assumes nothing.
use mathlib.Core.Path.{◌≡◌, sym, ap, ap₂, ◌∙◌}
use mathlib.Core.List.{List}
use Prim.Native.Nat.{ℕ, ◌-◌, ◌*◌, ◌/◌, ◌%◌, ◌^◌, ◌<◌}
use native.Mathlib.Omega.{arith}
use lib.Bits.{bit_and, and_mask}
use lib.Dec.{eqb}
use lib.ListN.{length, get_or}
use Rattle.model.specs.Limits.{word_bits}
use Rattle.model.specs.Wide.{word_of, AreWords, number_in}
use Rattle.signature.proofs.Wide.{word_bit}
use Rattle.signature.proofs.positions.RefSliceU64Positions.is_set.Goals as goal

-- the bit as the code reads it
read : (ws : List ℕ) → AreWords ws → (k i d : ℕ) → k < word_bits * length ws → i ≡ word_of (length ws) k → d ≡ k % word_bits
    → bit_and (get_or ws i 0 / 2 ^ d) 1 ≡ number_in ws / 2 ^ k % 2
read ws h k i d l e f = and_mask (get_or ws i 0 / 2 ^ d) 1 ∙ ap₂ (λ (j s : ℕ). get_or ws j 0 / 2 ^ s % 2) e f ∙ sym (word_bit ws h k l)

pub returns : goal.returns
returns c =
    let low = c.args.position.inside.0 in
    let high = c.args.position.inside.1 in
    let wide = c.requires in
    ap (λ (b : ℕ). eqb b 1) (read c.args.self.now (λ i. (c.type_inv.self i).fits) (c.args.position.width - c.args.position.number) c.word_in.result c.shift.result (omega arith) c.word_in.ensures.value c.shift.ensures.value)
