-- `sign_text` meets its contract: what is signed so far and the words that are ahead are the text's.
-- Assumes nothing.
use mathlib.Core.Path.{◌∙◌, sym, subst}
use Prim.Native.Nat.{ℕ, ◌+◌}
use native.Mathlib.Omega.{arith}
use Rattle.words.proofs.Signing.{TextSigns, text_begins, text_passes, text_next, text_ends, run_begun}
use Rattle.words.proofs.signer.Signer.sign_text.Goals as goal

pub loop-start-init : goal.loop-start-init
loop-start-init g c = subst (λ (n : ℕ). TextSigns c.args.self.width c.args.self.k c.args.text.now n 0) (sym c.requires.1) (text_begins _ _ _)

pub loop-start-preserved-then-is_separator : goal.loop-start-preserved-then-is_separator
loop-start-preserved-then-is_separator g c =
    text_passes _ _ _ _ _ c.loop-start-test.true (sym c.is_separator.ensures ∙ c.if-is_separator.true) c.loop-start.invariant

pub loop-start-preserved : goal.loop-start-preserved
loop-start-preserved g c =
    subst (λ (n : ℕ). TextSigns c.args.self.width c.args.self.k c.args.text.now n (c.end_of_run-end.result + 1)) (sym c.sign_word.ensures)
    (text_next _ _ _ _ _ _ (run_begun _ _ _ c.loop-start-test.true (sym c.is_separator.ensures ∙ c.if-is_separator.false) c.end_of_run-end.ensures.run) c.loop-start.invariant)

pub returns : goal.returns
returns g c = text_ends _ _ _ _ _ (omega arith) c.loop-start.invariant
