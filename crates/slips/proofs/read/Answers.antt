-- `slips::read` meets its contract: each kind's function gives what the kind comes to of what is told, whatever the tables.
-- Assumes nothing.
use Rattle.std.proofs.Common.{true, eqb, ◌&&◌, arith, ◌∙◌, sym}
use Rattle.model.specs.Questions.{words_at, block_in, no_field, file, withdraw, rebuild, search, read_kind}
use Rattle.slips.proofs.ToldKinds.{told_kind, told_empty, told_some, told_unknown}
use Rattle.slips.proofs.read.Goals as goal

pub returns-then-is_empty-clause-reads : goal.returns-then-is_empty-clause-reads
returns-then-is_empty-clause-reads c A T = told_empty A _ (sym c.is_empty.ensures ∙ c.if-is_empty.true)

pub returns-in-0-clause-reads : goal.returns-in-0-clause-reads
returns-in-0-clause-reads c A T = told_some A _ 0 _ (sym c.is_empty.ensures ∙ c.if-is_empty.false) (sym c.in-0.is ∙ c.kind_of.ensures) (c.read_clear.ensures A _)

pub returns-in-1-clause-reads : goal.returns-in-1-clause-reads
unfolding read_kind
returns-in-1-clause-reads c A T =
    let bytes = c.args.slip.now in
    told_some A _ 1 _ (sym c.is_empty.ensures ∙ c.if-is_empty.false) (sym c.in-1.is ∙ c.kind_of.ensures)
    (c.read_file.ensures.reads ∙ told_kind T bytes (λ W. true) (λ W. file (block_in bytes) (words_at bytes 8 W)))

pub returns-in-2-clause-reads : goal.returns-in-2-clause-reads
unfolding read_kind
returns-in-2-clause-reads c A T =
    let bytes = c.args.slip.now in
    told_some A _ 2 _ (sym c.is_empty.ensures ∙ c.if-is_empty.false) (sym c.in-2.is ∙ c.kind_of.ensures)
    (c.read_withdraw.ensures _ ∙ told_kind T bytes (no_field bytes) (λ W. withdraw (block_in bytes)))

pub returns-in-3-clause-reads : goal.returns-in-3-clause-reads
unfolding read_kind
returns-in-3-clause-reads c A T =
    let bytes = c.args.slip.now in
    told_some A _ 3 _ (sym c.is_empty.ensures ∙ c.if-is_empty.false) (sym c.in-3.is ∙ c.kind_of.ensures)
    (c.read_rebuild.ensures _ ∙ told_kind T bytes (λ W. eqb (block_in bytes) 0 && no_field bytes W) (λ W. rebuild))

pub returns-in-4-clause-reads : goal.returns-in-4-clause-reads
unfolding read_kind
returns-in-4-clause-reads c A T =
    let bytes = c.args.slip.now in
    told_some A _ 4 _ (sym c.is_empty.ensures ∙ c.if-is_empty.false) (sym c.in-4.is ∙ c.kind_of.ensures)
    (c.read_search.ensures.reads ∙ told_kind T bytes (λ W. eqb (block_in bytes) 0) (λ W. search (words_at bytes 8 W)))

pub returns-in-5-to-255-clause-reads : goal.returns-in-5-to-255-clause-reads
returns-in-5-to-255-clause-reads c A T = told_some A _ _ _ (sym c.is_empty.ensures ∙ c.if-is_empty.false) c.kind_of.ensures (told_unknown A _ _ (omega arith))
