-- `sign_word` meets its contract: what the word has set so far and the triplets ahead are the word's, and the text's signature has grown by
-- what the word has set.
-- Assumes nothing.
use mathlib.Core.Path.{◌≡◌, sym, ap, ◌∙◌}
use native.Mathlib.Omega.{arith}
use lib.Bits.{bit_or, or_zero_r}
use Rattle.std.specs.Slice.Iter.{windows_rest, windows_size}
use Rattle.std.specs.Slice.ArrayWindows.{array_windows_parts}
use Rattle.words.proofs.Signing.{word_begins, word_next, word_few, word_full, word_ends}
use Rattle.words.proofs.signer.Signer.sign_word.Goals as goal

pub loop-a-init : goal.loop-a-init
loop-a-init g c =
    let i = c.into_iter-a-iterator.ensures.into_iter_gives in
    let p = c.array_windows-a-items.ensures in
    let rest : windows_rest (array_windows_parts c.into_iter-a-iterator.result) ≡ c.args.bytes.now = ap (λ w. windows_rest (array_windows_parts w)) i ∙ p.rest in
    record {
      three = ap (λ w. windows_size (array_windows_parts w)) i ∙ p.size;
      word = rw (rest, c.begin_word.ensures.own) (word_begins _ _ _);
      few = omega (arith, c.args.self.any);
      signed = rw (c.begin_word.ensures.own, c.begin_word.ensures.signed) (sym (or_zero_r _));
    }

pub loop-a-preserved : goal.loop-a-preserved
loop-a-preserved g c =
    let t = c.in-Some.ensures.steps in
    let i = c.loop-a.invariant in
    let u = word_next _ _ _ _ _ _ _ _ _ _ _ _ i.three t.1.0 t.1.1 t.1.2 c.position.ensures.0 (rw c.position.ensures.1 at c.add_position-count.ensures.own) i.word in
    record {
      three = t.0 ∙ i.three;
      word = u;
      few = omega (arith, word_few _ _ _ _ _ _ u);
      signed = c.add_position-count.ensures.signed _ i.signed;
    }

pub returns-then-count-self : goal.returns-then-count-self
returns-then-count-self g c =
    let t = c.in-Some.ensures.steps in
    let i = c.loop-a.invariant in
    let u = word_next _ _ _ _ _ _ _ _ _ _ _ _ i.three t.1.0 t.1.1 t.1.2 c.position.ensures.0 (rw c.position.ensures.1 at c.add_position-count.ensures.own) i.word in
    c.add_position-count.ensures.signed _ i.signed ∙ ap (bit_or (g.D.Draft.signed c.args.draft.now)) (word_full _ _ _ _ _ _ c.args.self.some (omega arith) u)

pub returns : goal.returns
returns g c =
    let t = c.in-None.ensures.steps in
    let i = c.loop-a.invariant in
    i.signed ∙ ap (bit_or (g.D.Draft.signed c.args.draft.now)) (word_ends _ _ _ _ _ _ (omega (arith, i.three, t.1.0)) i.word)
