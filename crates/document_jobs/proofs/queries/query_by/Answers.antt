use Rattle.std.proofs.Common.{inl}
use Rattle.xpath_plan.specs.Plans.{expression}
use Rattle.document_jobs.proofs.QueryLemmas.{query_answered, query_next}
use Rattle.document_jobs.proofs.queries.query_by.Goals as goal

pub returns-in-Err : goal.returns-in-Err
returns-in-Err g c = inl (c.in-Err.ensures.failed (query_next (expression c.args.plan.now)) (g.O.Sink.view c.args.out.now))

pub returns : goal.returns
returns g c = query_answered c.args.file.now c.args.plan.now c.write_answer.result (g.S.Shelf.view c.args.shelf.now) (g.S.Shelf.view c.load_document.new.shelf)
    (g.O.Sink.view c.args.out.now) (g.O.Sink.view c.write_answer.new.out) (g.E.Sink.view c.args.err.now) (g.E.Sink.view c.load_document.new.err) c.in-Ok.doc
    c.in-Ok.ensures.read c.in-Ok.ensures.quiet c.in-Ok.ensures.loaded c.write_answer.ensures
