use Rattle.std.proofs.Common.{refl}
use Rattle.job_protocol.proofs.LibraryLemmas.{behind_library, library_ends}
use Rattle.job_protocol.proofs.libraries.load_library.Goals as goal

pub returns-in-Ok-clause-goes_on : goal.returns-in-Ok-clause-goes_on
returns-in-Ok-clause-goes_on g c =
    behind_library c.args.name.now c.in-Ok.library (g.S.Shelf.view c.args.shelf.now) (g.S.Shelf.view c.load.new.shelf)
    (g.E.Sink.view c.args.err.now) (g.E.Sink.view c.args.err.now) c.in-Ok.ensures.loaded refl

pub returns-in-Err-clause-fails : goal.returns-in-Err-clause-fails
returns-in-Err-clause-fails g c =
    library_ends c.args.name.now c.in-Err.fault c.refuse_library-status.result (g.S.Shelf.view c.args.shelf.now) (g.S.Shelf.view c.load.new.shelf)
    (g.E.Sink.view c.args.err.now) (g.E.Sink.view c.refuse_library-status.new.err) c.in-Err.ensures.fails c.refuse_library-status.ensures
