-- `begin_word` meets its contract: the word's bits are among those before it now, and the new word has none.
-- Assumes nothing.
use lib.Bits.{or_zero_r}
use Rattle.words.proofs.draft.OneWordDraft.begin_word.Goals as goal

pub returns-clause-signed : goal.returns-clause-signed
returns-clause-signed c = or_zero_r _
