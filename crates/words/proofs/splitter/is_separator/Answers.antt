-- `is_separator` meets its contract: the test for 32, then the one for 10.
-- Assumes nothing.
use borrow.Author.Tests.{eq-eqb, ne_eqb}
use Rattle.model.specs.Words.{separator}
use Rattle.words.proofs.splitter.is_separator.Goals as goal

pub returns-then-byte-eq32 : goal.returns-then-byte-eq32
unfolding separator
returns-then-byte-eq32 c = simp (eq-eqb _ 32 c.if-byte-eq32.true)

pub returns-else-byte-eq32 : goal.returns-else-byte-eq32
unfolding separator
returns-else-byte-eq32 c = simp (ne_eqb _ 32 c.if-byte-eq32.false)
