-- `split::Signed::ones` meets its contract: the sum of the bits counts the blocks with bit 1.
-- Assumes nothing.
use Rattle.std.proofs.Common.{ℕ, eqb, ◌^◌, ◌≤◌, ◌<◌, ◌≡◌, length, get_or, List, ◌∙◌, sym, arith, rules}
use Rattle.std.proofs.lemmas.Grind.{get_or_default_zero}
use Rattle.std.proofs.lemmas.Iterator.{YieldsList-from_slice, YieldsList-from_map}
use Rattle.std.proofs.lemmas.Iterator.Consumers.{YieldsList-at, sum_by_from_yields_List, fits_by_from_yields_list}
use Rattle.std.proofs.lemmas.Iterator.Adapters.{serves_from_places}
use Rattle.model.specs.Signature.{bit_at}
use Rattle.model.specs.Tables.{signature_of}
use Rattle.model.proofs.Keep.{keep_few}
use Rattle.split.specs.Split.{Blocks}
use Rattle.split.proofs.Sides.{ones_sum}
use Rattle.split.proofs.Signed.ones.Goals as goal

-- an entry is a block
is_block : (l : List ℕ) (k x n : ℕ) → k < length l → x ≡ get_or l k x → (1 ≤ get_or l k 0) × (get_or l k 0 ≤ n) → (1 ≤ x) × (x ≤ n)
is_block l k x n h e b = let z = get_or_default_zero l k x h in omega arith

pub sum-requires-clause-can : goal.sum-requires-clause-can
unfolding Blocks
sum-requires-clause-can g c =
    let a = c.args in (
      tt,
      serves_from_places (YieldsList-from_slice a.group.now cc) (λ x q k. search rules)
          (λ x k l e. let b : (1 ≤ x.now) × (x.now ≤ length (g.S.Signatures.numbers a.self.now.signatures)) = is_block a.group.now k x.now _ l e (c.requires.blocks k l) in search rules),
    )

pub sum-requires-clause-fits : goal.sum-requires-clause-fits
sum-requires-clause-fits g c =
    let s = c.args.self.now in
    let p = c.args.position in
    let group = c.args.group.now in
    let bit = λ (b : ℕ). bit_at p.width (signature_of (g.S.Signatures.numbers s.signatures) b) p.number in
    fits_by_from_yields_list bit group c.map.result (2 ^ 64)
    (YieldsList-from_map _ bit (YieldsList-at c.map.ensures.source (YieldsList-from_slice group cc)) c.map.ensures.closure (λ x r q k. search rules))
    (omega (arith, ones_sum p.width (signature_of (g.S.Signatures.numbers s.signatures)) p.number group, keep_few (λ b. eqb (bit b) 1) group, c.iter.ensures.bound, c.iter.ensures.len))

pub returns : goal.returns
returns g c =
    let s = c.args.self.now in
    let p = c.args.position in
    let group = c.args.group.now in
    let bit = λ (b : ℕ). bit_at p.width (signature_of (g.S.Signatures.numbers s.signatures) b) p.number in
    sum_by_from_yields_List bit group c.map.result _ c.sum.ensures.ran
    (YieldsList-from_map _ bit (YieldsList-at c.map.ensures.source (YieldsList-from_slice group cc)) c.map.ensures.closure (λ x r q k. search rules))
    ∙ sym (ones_sum p.width (signature_of (g.S.Signatures.numbers s.signatures)) p.number group)
