-- `sign` meets its contract: the number in one word is that word, and of more words than the width needs those in front are 0.
-- Assumes nothing.
use mathlib.Core.Path.{◌≡◌, sym, ap, ◌∙◌, subst}
use Prim.Native.Nat.{ℕ, ◌-◌, ◌*◌, ◌^◌, ◌≤◌, ◌<◌}
use native.Mathlib.Nat.{lt_of_lt_of_le}
use native.Mathlib.Omega.{arith}
use borrow.Author.Rules.{rules}
use lib.ListN.{length, drop, length-set, length-drop}
use lib.Pow.{pow_mono}
use lib.Seq.{take_all}
use Rattle.std.proofs.Common.{get_or-set_same}
use Rattle.model.specs.Limits.{word_bits}
use Rattle.model.specs.Wide.{number_in}
use Rattle.model.proofs.Wide.{number_one}
use Rattle.words.proofs.Covered.{signature_below}
use Rattle.words.proofs.Front.{front_zero}
use Rattle.words.proofs.signer.Signer.sign.Goals as goal

pub returns-then-signature-eq1 : goal.returns-then-signature-eq1
returns-then-signature-eq1 c =
    let one = c.if-signature-eq1.true in
    number_one _ (length-set c.args.signature.now 0 _ ∙ one) ∙ get_or-set_same c.args.signature.now 0 _ 0 (omega arith) ∙ c.sign_text.ensures

pub returns-else-signature-eq1 : goal.returns-else-signature-eq1
returns-else-signature-eq1 c =
    let some = c.args.self.some in
    let fits = c.args.self.fits in
    let lent = c.requires in
    let words = c.sign_text-else-signature-eq1.new.draft.words in
    let signed = c.sign_text-else-signature-eq1.ensures in
    let eight : length words ≡ 8 = search rules in
    let room : c.args.self.width ≤ word_bits * (length words - (8 - length c.args.signature.now)) = omega arith in
    let below : number_in words < 2 ^ c.args.self.width = subst (λ (n : ℕ). n < 2 ^ c.args.self.width) (sym signed) (signature_below _ _ _ some) in
    let part : length (drop (8 - length c.args.signature.now) words) ≤ length words - (8 - length c.args.signature.now) = omega (arith, length-drop (8 - length c.args.signature.now) words) in
    ap number_in (c.copy_words.ensures ∙ take_all _ _ part) ∙ front_zero (8 - length c.args.signature.now) words (omega arith) (lt_of_lt_of_le below (pow_mono room)) ∙ signed
