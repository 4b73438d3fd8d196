-- `none` meets its contract: all words are 0, and so is each place's entry.
-- Assumes nothing.
use Rattle.model.proofs.Wide.{number_zeros}
use Rattle.words.proofs.Stamping.{zeros_numbered}
use Rattle.words.proofs.draft.ManyWords.none.Goals as goal

pub invariant_of-result : goal.invariant_of-result
invariant_of-result c = record { numbered = zeros_numbered 512 0 }

pub returns : goal.returns
returns c = number_zeros 8
