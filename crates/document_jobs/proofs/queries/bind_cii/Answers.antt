use Rattle.document_jobs.proofs.QueryLemmas.{cii_made}
use Rattle.document_jobs.proofs.queries.bind_cii.Goals as goal

pub returns : goal.returns
returns c = cii_made c.args.scope.now _ _ _ _ c.in_ok-bind.ensures c.in_ok-bind-2.ensures c.in_ok-bind-3.ensures c.in_ok-bind-4.ensures
