use Rattle.std.proofs.Common.{sym, ap, ◌∙◌}
use Rattle.std.specs.Prelude.{is_some}
use Rattle.bind_write.specs.Wordings.{wording_text}
use Rattle.bind_write.proofs.SourceLemmas.{writes-same, row-said}
use Rattle.bind_write.proofs.holding.writes.Goals as goal

pub returns-else-is_absent : goal.returns-else-is_absent
returns-else-is_absent c =
    let es = c.args.source.now.entries.now in
    let here = c.context_for-context.result in
    c.is_some.ensures
    ∙ (writes-same es c.entries_for.result.now here c.entries_for.ensures.same wording_text c.term_wording.result c.args.row.now c.in-Term.term
    c.term_wording.ensures.text
    ∙ ap is_some (row-said es c.args.source.now.context here c.args.row.now c.in-Term.term c.in-Term.is c.context_for-context.ensures))

pub returns-then-is_absent : goal.returns-then-is_absent
returns-then-is_absent c =
    let es = c.args.source.now.entries.now in
    let here = c.context_for-context.result in
    ap is_some (sym (c.is_absent.ensures c.if-is_absent.true)
    ∙ row-said es c.args.source.now.context here c.args.row.now c.in-Term.term c.in-Term.is c.context_for-context.ensures)
