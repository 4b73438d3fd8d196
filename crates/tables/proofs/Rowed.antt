-- The words of a block's signature stand inside the slice that is lent for signatures, and there is at least one.
-- Assumes nothing.
use Prim.Native.Nat.{ℕ, ◌*◌, ◌≤◌}
use native.Mathlib.Nat.{mul-le-mul_right, mul-one}
use native.Mathlib.Omega.{arith}
use mathlib.Core.Path.{◌≡◌, sym, ap, ap₂, ◌∙◌}
use lib.ListN.{length}
use Rattle.model.specs.Wide.{signatures_in}
use Rattle.model.proofs.Wide.{signatures_length, signatures_one}
use Rattle.tables.specs.declared.rows.Rows.{Rows}
use Rattle.tables.specs.Rows.{numbers}

module _ (r : Rows) where
  pub count : length (numbers r) ≡ r.blocks
  count = signatures_length r.words r.blocks r.signatures.now

  pub block_inside : (b : ℕ) → b ≤ length (numbers r) → b * r.words ≤ length r.signatures.now
  block_inside b h =
      let k : b ≤ r.blocks = omega (arith, count) in
      let m = mul-le-mul_right r.words k in
      omega (arith, r.fit.long)

  pub some_word : 1 ≤ r.words
  some_word = omega (arith, r.fit.each, r.fit.rows.width_from)

  -- with one word to a signature, the words are the numbers
  module _ (one : r.words ≡ 1) where
    one_long : length r.signatures.now ≡ r.blocks
    one_long = r.fit.long ∙ ap (λ (w : ℕ). r.blocks * w) one ∙ mul-one r.blocks

    pub one_numbers : numbers r ≡ r.signatures.now
    one_numbers = ap₂ (λ (w n : ℕ). signatures_in w n r.signatures.now) one (sym one_long) ∙ signatures_one r.signatures.now
