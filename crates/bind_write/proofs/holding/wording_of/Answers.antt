use Rattle.std.proofs.Common.{sym, ◌∙◌}
use Rattle.bind_write.proofs.SourceLemmas.{text-same, row-said, row-written}
use Rattle.bind_write.proofs.holding.wording_of.Goals as goal

pub returns-else-is_absent-clause-text : goal.returns-else-is_absent-clause-text
returns-else-is_absent-clause-text c =
    let es = c.args.source.now.entries.now in
    let around = c.args.source.now.context in
    let here = c.context_for-context.result in
    c.term_wording.ensures.text
    ∙ (text-same es c.entries_for.result.now here c.entries_for.ensures.same c.args.row.now c.in-Term.term
    ∙ (row-said es around here c.args.row.now c.in-Term.term c.in-Term.is c.context_for-context.ensures ∙
    row-written es around c.args.row.now c.in-Term.term c.in-Term.is))

pub returns-then-is_absent-clause-text : goal.returns-then-is_absent-clause-text
returns-then-is_absent-clause-text c =
    let es = c.args.source.now.entries.now in
    let around = c.args.source.now.context in
    let here = c.context_for-context.result in
    sym (c.is_absent.ensures c.if-is_absent.true)
    ∙ (row-said es around here c.args.row.now c.in-Term.term c.in-Term.is c.context_for-context.ensures ∙
    row-written es around c.args.row.now c.in-Term.term c.in-Term.is)
