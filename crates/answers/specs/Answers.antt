-- What the answers of the code say in document 01's numbers: the number and the counts of each case.
-- Assumes nothing.
use Rattle.std.specs.Prelude.{ℕ, ◌≡◌, Result, Ok, Err}
use Rattle.model.specs.Ledger.{bare}
use Rattle.answers.specs.declared.refusal.Refusal.{Refusal}
use Rattle.answers.specs.declared.refusal.Refusal.TheVariants.{NotASlip, UnknownKind, FieldUsed, Unfit, NoBlock, TooLarge, Filed, NotFiled, ShortScratch, ShortOutput, Unsound, LongText, NoSuchCount}
use Rattle.answers.specs.declared.report.Counts.{Counts}
use Rattle.answers.specs.declared.report.Report.{Report}
use Rattle.model.specs.Ledger as ledger

-- the number of the question that a refusal says no to
abbrev pub number_of : Refusal → ℕ
number_of NotASlip = 1
number_of UnknownKind = 2
number_of FieldUsed = 3
number_of Unfit = 4
number_of NoBlock = 5
number_of TooLarge = 6
number_of Filed = 7
number_of NotFiled = 8
number_of ShortScratch = 9
number_of ShortOutput = 10
number_of Unsound = 11
number_of LongText = 12
number_of NoSuchCount = 13

-- the answer: 0 where the call was carried out
abbrev pub answer_of : {T : Type 0} → Result T Refusal → ℕ
answer_of (Ok t) = 0
answer_of (Err r) = number_of r

-- the answer and the counts, all 0 where the call is refused
abbrev pub report_of : Result Counts Refusal → ledger.Report
report_of (Ok c) = record { answer = 0; found = c.found; compares = c.compares; bits = c.bits }
report_of (Err r) = bare (number_of r)

-- the report's numbers
abbrev pub numbers_of : Report → ledger.Report
numbers_of r = record { answer = r.answer; found = r.counts.found; compares = r.counts.compares; bits = r.counts.bits }

abbrev pub reports : Result Counts Refusal → Report → Type 0
reports outcome r = numbers_of r ≡ report_of outcome
