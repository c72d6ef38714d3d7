use Rattle.invoice_jobs.proofs.SourceLemmas.{no_terms_go_on}
use Rattle.invoice_jobs.proofs.sources.load_extended.Goals as goal

pub returns-in-Some-clause-goes_on : goal.returns-in-Some-clause-goes_on
returns-in-Some-clause-goes_on g c = rw c.in-Some.is c.load_terms.ensures.goes_on

pub returns-in-Some-clause-fails : goal.returns-in-Some-clause-fails
returns-in-Some-clause-fails g c = rw c.in-Some.is c.load_terms.ensures.fails

pub returns-in-None-clause-goes_on : goal.returns-in-None-clause-goes_on
returns-in-None-clause-goes_on g c = rw c.in-None.is
    (no_terms_go_on c.without_terms.result (g.S.Shelf.view c.args.shelf.now) (g.E.Sink.view c.args.err.now) c.without_terms.ensures.none)
