use Rattle.std.proofs.Common.{option_map}
use Rattle.job_protocol.specs.Views.{text_of}
use Rattle.invoice_jobs.specs.Sources.{listed_protocol}
use Rattle.invoice_jobs.proofs.SourceLemmas.{profile_goes_on, profile_fails, no_lists}
use Rattle.invoice_jobs.proofs.sources.load_profile.Goals as goal

pub returns-in-Err-clause-fails : goal.returns-in-Err-clause-fails
returns-in-Err-clause-fails g c =
    let named = c.args.sources.now in
    no_lists (listed_protocol (option_map text_of named.codes_file)) (option_map text_of named.extension_file) c.in-Err.status (g.S.Shelf.view c.args.shelf.now)
    (g.S.Shelf.view c.load_lists.new.shelf) (g.E.Sink.view c.args.err.now) (g.E.Sink.view c.load_lists.new.err) c.in-Err.ensures.fails

pub returns-in-Ok-load_extended-clause-goes_on : goal.returns-in-Ok-load_extended-clause-goes_on
returns-in-Ok-load_extended-clause-goes_on g c =
    let named = c.args.sources.now in
    profile_goes_on (listed_protocol (option_map text_of named.codes_file)) (option_map text_of named.extension_file) c.in-Ok.lists
    (g.S.Shelf.view c.args.shelf.now)
    (g.S.Shelf.view c.load_lists.new.shelf) (g.S.Shelf.view c.load_extended.new.shelf) (g.E.Sink.view c.args.err.now) (g.E.Sink.view c.load_lists.new.err)
    (g.E.Sink.view c.load_extended.new.err) c.in-Ok.ensures.goes_on c.in-Ok-load_extended.field-0.extension c.in-Ok-load_extended.ensures.goes_on

pub returns-in-Err-load_extended-clause-fails : goal.returns-in-Err-load_extended-clause-fails
returns-in-Err-load_extended-clause-fails g c =
    let named = c.args.sources.now in
    profile_fails (listed_protocol (option_map text_of named.codes_file)) (option_map text_of named.extension_file) c.in-Ok.lists (g.S.Shelf.view
    c.args.shelf.now)
    (g.S.Shelf.view c.load_lists.new.shelf) (g.S.Shelf.view c.load_extended.new.shelf) (g.E.Sink.view c.args.err.now) (g.E.Sink.view c.load_lists.new.err)
    (g.E.Sink.view c.load_extended.new.err) c.in-Ok.ensures.goes_on c.in-Err-load_extended.status c.in-Err-load_extended.ensures.fails
