use Rattle.invoice_jobs.proofs.SourceLemmas.{listed_goes_on, listed_fails}
use Rattle.validation_jobs.proofs.ValidationLemmas.{built_in_if, built_in_if_not}
use Rattle.validation_jobs.proofs.built_in.load_lists.Goals as goal

pub returns-in-Some-clause-goes_on : goal.returns-in-Some-clause-goes_on
returns-in-Some-clause-goes_on g c = rw c.in-Some.is
    (listed_goes_on c.in-Some.file.now c.take_lists.result (g.S.Shelf.view c.args.shelf.now) (g.S.Shelf.view c.take_lists.new.shelf)
    (g.E.Sink.view c.args.err.now) (g.E.Sink.view c.take_lists.new.err) c.take_lists.ensures.listed c.take_lists.ensures.read c.take_lists.ensures.quiet)

pub returns-in-Some-clause-fails : goal.returns-in-Some-clause-fails
returns-in-Some-clause-fails g c = rw c.in-Some.is
    (listed_fails c.in-Some.file.now c.take_lists.result (g.S.Shelf.view c.args.shelf.now) (g.S.Shelf.view c.take_lists.new.shelf)
    (g.E.Sink.view c.args.err.now) (g.E.Sink.view c.take_lists.new.err) c.take_lists.ensures.failed)

pub returns-in-None-clause-goes_on : goal.returns-in-None-clause-goes_on
returns-in-None-clause-goes_on g c = rw c.in-None.is
    (built_in_if c.built_in_lists.result (g.S.Shelf.view c.args.shelf.now) (g.E.Sink.view c.args.err.now) (g.E.Sink.view c.built_in_lists.new.err)
    c.built_in_lists.ensures.lists)

pub returns-in-None-clause-fails : goal.returns-in-None-clause-fails
returns-in-None-clause-fails g c = rw c.in-None.is
    (built_in_if_not c.built_in_lists.result (g.S.Shelf.view c.args.shelf.now) (g.E.Sink.view c.args.err.now) (g.E.Sink.view c.built_in_lists.new.err)
    c.built_in_lists.ensures.refused)
