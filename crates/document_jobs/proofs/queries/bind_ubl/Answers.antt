use Rattle.document_jobs.proofs.QueryLemmas.{ubl_made}
use Rattle.document_jobs.proofs.queries.bind_ubl.Goals as goal

pub returns : goal.returns
returns c = ubl_made c.args.scope.now _ _ _ _ c.in_ok-bind.ensures c.in_ok-bind-2.ensures c.in_ok-bind-3.ensures c.in_ok-bind-4.ensures
