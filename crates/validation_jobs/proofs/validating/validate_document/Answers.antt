use Rattle.std.proofs.Common.{◌∙◌}
use Rattle.node_arena.specs.Moves.{tree_nodes}
use Rattle.invoice_jobs.specs.Sources.{profile_of}
use Rattle.bind_run.specs.Reading.{found_report}
use Rattle.validation_jobs.specs.Validation.{text_asked}
use Rattle.validation_jobs.proofs.ValidationLemmas.{same_faults, document_faulted, document_refused}
use Rattle.validation_jobs.proofs.validating.validate_document.Goals as goal

pub returns-in-Ok : goal.returns-in-Ok
returns-in-Ok g c = λ content lines shelf.
    let held = c.args.reading_profile.now in
    let doc = c.args.placed.now.doc in
    document_faulted (text_asked c.args.asked.now) c.args.asked.now.file.now (profile_of held) content doc shelf (found_report c.in-Ok.reading_report)
    (g.O.Sink.view c.args.out.now)
    (g.O.Sink.view c.judge_document-status.new.out) (g.E.Sink.view c.args.err.now)
    (g.E.Sink.view c.judge_document-status.new.err) c.judge_document-status.result
    (same_faults held.extension held.tables c.requires.tables (tree_nodes doc) held.lists ∙ c.in-Ok.ensures.finds)
    (c.judge_document-status.ensures content lines shelf)

pub returns-in-Err : goal.returns-in-Err
returns-in-Err g c = λ content lines shelf.
    let held = c.args.reading_profile.now in
    let doc = c.args.placed.now.doc in
    document_refused (text_asked c.args.asked.now) c.args.asked.now.file.now (profile_of held) content doc shelf c.in-Err.fault (g.O.Sink.view c.args.out.now)
    (g.E.Sink.view
    c.args.err.now)
    (g.E.Sink.view c.refuse_invoice.new.err) c.refuse_invoice.result
    (λ other. same_faults held.extension held.tables c.requires.tables (tree_nodes doc) held.lists ∙ c.in-Err.ensures.finds other) c.refuse_invoice.ensures
