use Rattle.document_jobs.proofs.QueryLemmas.{scope_made}
use Rattle.document_jobs.proofs.queries.bind_all.Goals as goal

pub returns : goal.returns
returns c = scope_made _ _ _ c.requires c.in_ok-bind_ubl.ensures c.in_ok-bind_cii.ensures
