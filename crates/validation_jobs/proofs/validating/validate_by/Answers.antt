use Rattle.job_protocol.specs.Protocol.{told_protocol}
use Rattle.validation_jobs.specs.Validation.{text_asked, found_next}
use Rattle.validation_jobs.proofs.validating.validate_by.Goals as goal

pub returns-in-Ok : goal.returns-in-Ok
returns-in-Ok g c =
    c.in-Ok.ensures.goes_on (λ reading_profile. told_protocol c.args.asked.now.file.now (found_next (text_asked c.args.asked.now) c.args.asked.now.file.now
    reading_profile))
    (g.S.Shelf.view c.validate_file-status.new.shelf)
    (g.O.Sink.view c.args.out.now) (g.O.Sink.view c.validate_file-status.new.out) (g.E.Sink.view c.validate_file-status.new.err) c.validate_file-status.result
    c.validate_file-status.ensures
