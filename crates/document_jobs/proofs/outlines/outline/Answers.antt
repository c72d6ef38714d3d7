use Rattle.std.proofs.Common.{inl, inr, refl, subst}
use Rattle.inv_base.specs.Writing.{WritesAll, WritesFront}
use Rattle.xml_profile.specs.Profile.{tree_of}
use Rattle.job_protocol.specs.declared.status.Status.TheVariants as statuses
use Rattle.job_protocol.specs.Protocol.{ends, done}
use Rattle.job_protocol.proofs.Ends.{written_here, behind_document}
use Rattle.document_jobs.specs.Outline.{outline_text}
use Rattle.document_jobs.proofs.OutlineLemmas.{lines_of-tree}
use Rattle.document_jobs.proofs.outlines.outline.Goals as goal

pub returns-then-print_outline-clause-runs : goal.returns-then-print_outline-clause-runs
returns-then-print_outline-clause-runs g c =
    let found = c.in-Ok.ensures.loaded in
    let printed = rw c.if-print_outline.true at c.print_outline.ensures in
    let front = subst (λ text. WritesFront text (g.O.Sink.view c.args.out.now) (g.O.Sink.view c.print_outline.new.out))
    (lines_of-tree c.in-Ok.doc (tree_of found.found) found.of_tree) printed in
    behind_document c.args.file.now (g.S.Shelf.view c.args.shelf.now) (g.S.Shelf.view c.load_document.new.shelf) (g.S.Shelf.view c.load_document.new.shelf)
    (g.O.Sink.view c.args.out.now) (g.O.Sink.view c.print_outline.new.out) (g.E.Sink.view c.args.err.now) (g.E.Sink.view c.load_document.new.err)
    (g.E.Sink.view c.load_document.new.err) statuses.WriteFault c.in-Ok.ensures.read c.in-Ok.ensures.quiet
    (λ document. ends (done (outline_text (tree_of document)))) c.in-Ok.doc found
    (written_here statuses.Done statuses.WriteFault (outline_text (tree_of found.found)) (g.S.Shelf.view c.load_document.new.shelf)
    (g.O.Sink.view c.args.out.now)
    (g.O.Sink.view c.print_outline.new.out) (g.E.Sink.view c.load_document.new.err) tt (inr (refl, front)))

pub returns-clause-runs : goal.returns-clause-runs
returns-clause-runs g c =
    let found = c.in-Ok.ensures.loaded in
    let printed = rw c.if-print_outline.false at c.print_outline.ensures in
    let all = subst (λ text. WritesAll text (g.O.Sink.view c.args.out.now) (g.O.Sink.view c.print_outline.new.out))
    (lines_of-tree c.in-Ok.doc (tree_of found.found) found.of_tree) printed in
    behind_document c.args.file.now (g.S.Shelf.view c.args.shelf.now) (g.S.Shelf.view c.load_document.new.shelf) (g.S.Shelf.view c.load_document.new.shelf)
    (g.O.Sink.view c.args.out.now) (g.O.Sink.view c.print_outline.new.out) (g.E.Sink.view c.args.err.now) (g.E.Sink.view c.load_document.new.err)
    (g.E.Sink.view c.load_document.new.err) statuses.Done c.in-Ok.ensures.read c.in-Ok.ensures.quiet
    (λ document. ends (done (outline_text (tree_of document)))) c.in-Ok.doc found
    (written_here statuses.Done statuses.Done (outline_text (tree_of found.found)) (g.S.Shelf.view c.load_document.new.shelf) (g.O.Sink.view c.args.out.now)
    (g.O.Sink.view c.print_outline.new.out) (g.E.Sink.view c.load_document.new.err) tt (inl (refl, all)))
