-- `word_asks` meets its contract: a text fits or is too long.
-- Assumes nothing.
use Rattle.words.proofs.Asked.{text_fits, text_long}
use Rattle.words.proofs.question.word_asks.Goals as goal

pub returns-then-text-gt-LONGEST_TEXT-clause-number : goal.returns-then-text-gt-LONGEST_TEXT-clause-number
returns-then-text-gt-LONGEST_TEXT-clause-number c = text_long _ c.if-text-gt-LONGEST_TEXT.true

pub returns-clause-number : goal.returns-clause-number
returns-clause-number c = text_fits _ c.if-text-gt-LONGEST_TEXT.false
