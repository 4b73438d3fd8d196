-- `tables::rows::clear_signature` meets its contract: so many of the words are 0.
-- Assumes nothing.
use Prim.Native.Nat.{ℕ}
use native.Mathlib.Omega.{arith}
use mathlib.Core.Path.{◌≡◌, sym, ap, ◌∙◌}
use lib.ListN.{replicate, length-replicate}
use lib.Seq.{paste}
use Rattle.model.proofs.Wide.{word_inside, set_words_paste, zero_first, zero_next}
use Rattle.tables.proofs.rows.clear_signature.Goals as goal

pub loop-i-init : goal.loop-i-init
loop-i-init c =
    let s = c.args in
    let r = c.requires in
    zero_first s.signatures.now _ s.words (word_inside s.block s.words _ 0 r.0 r.1 r.2) r.2

pub loop-i-preserved : goal.loop-i-preserved
loop-i-preserved c =
    let s = c.args in
    let r = c.requires in
    let k = c.loop-i-test.true in
    zero_next s.signatures.now _ s.words c.loop-i.i _ c.loop-i.invariant (word_inside s.block s.words _ c.loop-i.i r.0 r.1 k) k

pub returns : goal.returns
returns c =
    let s = c.args in
    let n : c.loop-i.i ≡ s.words = omega (arith, c.loop-i-test.false, c.loop-i.auto.i-end c.requires.2) in
    c.loop-i.invariant ∙ ap (paste s.signatures.now _ (replicate s.words 0)) n ∙ sym (set_words_paste s.words s.signatures.now s.block (replicate s.words 0) (length-replicate {A = ℕ} s.words 0))
