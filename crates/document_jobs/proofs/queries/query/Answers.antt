use Rattle.document_jobs.proofs.QueryLemmas.{query_refused, query_planned}
use Rattle.document_jobs.proofs.queries.query.Goals as goal

pub returns-in-Err : goal.returns-in-Err
returns-in-Err g c = query_refused c.args.text.now c.args.file.now c.in-Err.fault c.refuse_expression.result (g.S.Shelf.view c.args.shelf.now)
    (g.O.Sink.view c.args.out.now)
    (g.E.Sink.view c.args.err.now) (g.E.Sink.view c.refuse_expression.new.err) c.in-Err.ensures c.refuse_expression.ensures

pub returns-in-Ok : goal.returns-in-Ok
returns-in-Ok g c = query_planned c.args.text.now c.args.file.now c.in-Ok.plan c.query_by-status.result _ _ c.in-Ok.ensures c.query_by-status.ensures
