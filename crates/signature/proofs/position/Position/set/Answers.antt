-- `signature::position::Position::set` meets its contract: bit k of the number is bit k % 64 of word k / 64 from the low end.
-- Assumes nothing.
use mathlib.Core.Path.{◌≡◌, ap, ap₂, ◌∙◌}
use mathlib.Core.List.{List}
use Prim.Native.Nat.{ℕ, ◌-◌, ◌*◌, ◌%◌, ◌^◌, ◌<◌}
use native.Mathlib.Nat.{one-mul}
use native.Mathlib.Omega.{arith}
use borrow.Author.Rules.{rules}
use lib.Bits.{bit_or}
use lib.ListN.{length, get_or, set}
use lib.Pow.{shl_exact}
use lib.Seq.{set-set, set-get_or}
use Rattle.model.specs.Limits.{word_bits}
use Rattle.model.specs.Wide.{word_of, AreWords, number_in}
use Rattle.signature.proofs.Wide.{set_bit}
use Rattle.signature.proofs.position.Position.set.Goals as goal

-- the word as the code makes it
made : (ws : List ℕ) → AreWords ws → (k i d : ℕ) → k < word_bits * length ws → i ≡ word_of (length ws) k → d ≡ k % word_bits
    → number_in (set ws i (bit_or (get_or ws i 0) ((1 * 2 ^ d) % 2 ^ word_bits))) ≡ bit_or (number_in ws) (2 ^ k)
made ws h k i d l e f =
    let p : (1 * 2 ^ d) % 2 ^ word_bits ≡ 2 ^ (k % word_bits) = shl_exact {a = 1} 1 d word_bits (omega arith) (omega arith) ∙ one-mul (2 ^ d) ∙ ap (λ (n : ℕ). 2 ^ n) f in
    ap₂ (λ (j b : ℕ). number_in (set ws j (bit_or (get_or ws j 0) b))) e p ∙ set_bit ws h k l

-- the old word stored back
back : (ws : List ℕ) (k i v : ℕ) → i ≡ word_of (length ws) k → set (set ws i v) (word_of (length ws) k) (get_or ws i 0) ≡ ws
back ws k i v e =
    ap (λ (j : ℕ). set (set ws j v) (word_of (length ws) k) (get_or ws j 0)) e
    ∙ set-set ws (word_of (length ws) k) v (get_or ws (word_of (length ws) k) 0)
    ∙ set-get_or ws (word_of (length ws) k) 0

pub returns-clause-number : goal.returns-clause-number
returns-clause-number c =
    let low = c.args.self.inside.0 in
    let high = c.args.self.inside.1 in
    let wide = c.requires in
    made c.args.signature.now (λ i. search rules) (c.args.self.width - c.args.self.number) c.word_in-at.result c.shift.result (omega arith) c.word_in-at.ensures.value c.shift.ensures.value

pub returns-clause-back : goal.returns-clause-back
returns-clause-back c = back c.args.signature.now (c.args.self.width - c.args.self.number) c.word_in-at.result _ c.word_in-at.ensures.value
