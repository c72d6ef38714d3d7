use Rattle.std.specs.Prelude.{map, drop}
use Rattle.job_protocol.specs.Views.{texts_of}
use Rattle.document_jobs.specs.Checks.{named_of}
use Rattle.document_jobs.proofs.CheckLemmas.{Leads}
use Rattle.document_jobs.proofs.checks.load_all.Given as goal

-- Whatever follows, the rest of the files leads on from here.
abbrev pub invariant-files : goal.invariant-files
invariant-files g l = Leads (texts_of l.names) (texts_of (drop l.name-index l.names)) (map named_of l.files.items) (g.S.Shelf.view l.initial.shelf)
    (g.S.Shelf.view l.shelf)
    (g.E.Sink.view l.initial.err) (g.E.Sink.view l.err)
