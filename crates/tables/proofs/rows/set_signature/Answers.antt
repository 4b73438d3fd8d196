-- `tables::rows::set_signature` meets its contract: the first word is set, and those behind it are copied.
-- Assumes nothing.
use native.Mathlib.Omega.{arith}
use mathlib.Core.Path.{◌≡◌, refl, sym, ap, ◌∙◌}
use lib.ListN.{length, length-set}
use lib.Seq.{paste}
use Rattle.model.proofs.Wide.{word_inside, set_words_paste, copy_first}
use Rattle.tables.proofs.rows.set_signature.Goals as goal

pub returns-then-signature-gt1 : goal.returns-then-signature-gt1
returns-then-signature-gt1 c =
    let s = c.args in
    let r = c.requires in
    let first = copy_first s.signatures.now _ s.signature.now (word_inside s.block (length s.signature.now) _ 0 r.0 r.1 r.2) r.2 in
    c.set_rest.ensures s.signatures.now first (sym (length-set s.signatures.now _ _)) ∙ sym (set_words_paste (length s.signature.now) s.signatures.now s.block s.signature.now refl)

pub returns-else-signature-gt1 : goal.returns-else-signature-gt1
returns-else-signature-gt1 c =
    let s = c.args in
    let r = c.requires in
    let one : 1 ≡ length s.signature.now = omega (arith, c.if-signature-gt1.false, r.2) in
    copy_first s.signatures.now _ s.signature.now (word_inside s.block (length s.signature.now) _ 0 r.0 r.1 r.2) r.2
    ∙ ap (paste s.signatures.now _ s.signature.now) one
    ∙ sym (set_words_paste (length s.signature.now) s.signatures.now s.block s.signature.now refl)
