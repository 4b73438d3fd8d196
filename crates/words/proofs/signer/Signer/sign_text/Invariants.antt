-- `sign_text` meets its contract: what is signed so far and the words that are ahead are the text's.
-- Assumes nothing.
use Prim.Native.Nat.{◌-◌}
use lib.ListN.{length}
use Rattle.words.proofs.Signing.{TextSigns}
use Rattle.words.proofs.signer.Signer.sign_text.Given as goal

abbrev pub invariant-loop-start : goal.invariant-loop-start
invariant-loop-start g l = TextSigns l.self.width l.self.k l.text (g.D.Draft.signed l.draft) l.start

abbrev pub decreases-loop-start : goal.decreases-loop-start
decreases-loop-start g l = length l.text - l.start
