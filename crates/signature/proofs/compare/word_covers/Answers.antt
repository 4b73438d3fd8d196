-- `signature::compare::word_covers` meets its contract: the AND of the two is the query exactly where the test of every position passes.
-- Assumes nothing.
use Rattle.signature.proofs.Covering.{and_test}
use Rattle.signature.proofs.compare.word_covers.Goals as goal

pub returns : goal.returns
returns c F h = and_test F c.args.signature c.args.query h
