use Rattle.schematron_rules.specs.Seen.{seen_rules}
use Rattle.document_jobs.proofs.CheckLemmas.{behind_said, said_refused}
use Rattle.document_jobs.proofs.checks.load_said.Goals as goal

pub returns-in-Ok-rules_in-clause-goes_on : goal.returns-in-Ok-rules_in-clause-goes_on
returns-in-Ok-rules_in-clause-goes_on g c =
    behind_said c.args.name.now c.in-Ok.library (g.S.Shelf.view c.args.shelf.now) (g.S.Shelf.view c.load_library.new.shelf)
    (g.E.Sink.view c.args.err.now) (g.E.Sink.view c.load_library.new.err) c.in-Ok.ensures.goes_on
    (seen_rules c.in-Ok-rules_in.rules) (g.E.Sink.view c.rules_in.new.err) c.in-Ok-rules_in.ensures.said c.in-Ok-rules_in.ensures.quiet

pub returns-clause-fails : goal.returns-clause-fails
returns-clause-fails g c =
    said_refused c.args.name.now c.in-Ok.library (g.S.Shelf.view c.args.shelf.now) (g.S.Shelf.view c.load_library.new.shelf)
    (g.E.Sink.view c.args.err.now) (g.E.Sink.view c.load_library.new.err) c.in-Ok.ensures.goes_on
    c.in-Err-rules_in.status (g.E.Sink.view c.rules_in.new.err) c.in-Err-rules_in.ensures.refused
