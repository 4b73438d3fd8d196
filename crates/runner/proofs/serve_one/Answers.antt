-- `runner::serve_one` meets its contract: the slip is carried out on the words that it is lent, and the line put is that of the report.
-- Assumes nothing.
use borrow.Author.Rules.{rules}
use Rattle.answers.specs.Answers.{report_of}
use Rattle.runner.proofs.Turns.{serves_by}
use Rattle.runner.proofs.serve_one.Goals as goal

pub returns-clause-served : goal.returns-clause-served
returns-clause-served c = record {
  report = report_of c.carry_lent-outcome.result;
  serves = serves_by _ _ _ _ _ _ _ _ _ _ _ _ _ _ _ c.lent_count-words.ensures.count c.lent_count-words.ensures.enough (search rules) c.carry_lent-outcome.ensures.promise;
  puts = search rules;
  room = search rules;
}
