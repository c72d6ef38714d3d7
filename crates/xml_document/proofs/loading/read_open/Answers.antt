use Rattle.std.proofs.Common.{◌≡◌, ap, ◌∙◌, arith}
use Rattle.xml_profile.specs.Readers.{Progress}
use Rattle.xml_document.proofs.LoadLemmas.{read_nothing, read_wholly, refused_at_end, stops_at_end, wholly_built, wholly_given}
use Rattle.xml_document.proofs.loading.read_open.Goals as goal

pub feed_all-requires-clause-unread : goal.feed_all-requires-clause-unread
feed_all-requires-clause-unread g c = read_nothing (c.args.limits) c.in_ok-reader.reader c.in_ok-reader.ensures

pub finish-requires-in-Ok-finish : goal.finish-requires-in-Ok-finish
finish-requires-in-Ok-finish g c =
    let limits = c.args.limits in
    let fed = c.in-Ok.ensures.fed in
    let kept : c.feed_all.new.reader.limits ≡ limits = c.feed_all.ensures.limits ∙ ap (λ (p : Progress). p.limits) c.in_ok-reader.ensures in
    wholly_built _ limits (g.S.Shelf.view c.args.shelf.now).left c.in-Ok-finish.names c.finish.new.events (g.B.ByteReceiver.taken c.args.bytes.now)
    (g.B.ByteReceiver.taken c.feed_all.new.bytes)
    (read_wholly _ limits (g.S.Shelf.view c.args.shelf.now).left _ c.feed_all.new.reader c.in_ok-builder.builder c.feed_all.new.events c.finish.new.events
    c.in-Ok-finish.names
    (g.B.ByteReceiver.taken c.args.bytes.now) (g.B.ByteReceiver.taken c.feed_all.new.bytes) kept c.in_ok-builder.ensures fed
    (c.in-Ok-finish.ensures.ended fed.fed fed.read) (λ found is. c.read_builds_its_tree.ensures limits fed.fed found (omega arith) is))

pub returns-in_ok-doc-in-Ok-finish-clause-loaded : goal.returns-in_ok-doc-in-Ok-finish-clause-loaded
returns-in_ok-doc-in-Ok-finish-clause-loaded g c =
    let limits = c.args.limits in
    let fed = c.in-Ok.ensures.fed in
    let kept : c.feed_all.new.reader.limits ≡ limits = c.feed_all.ensures.limits ∙ ap (λ (p : Progress). p.limits) c.in_ok-reader.ensures in
    wholly_given _ limits (g.S.Shelf.view c.args.shelf.now).left c.in-Ok-finish.names c.finish.new.events c.in_ok-doc-in-Ok-finish.doc
    (g.B.ByteReceiver.taken c.args.bytes.now) (g.B.ByteReceiver.taken c.feed_all.new.bytes)
    (read_wholly _ limits (g.S.Shelf.view c.args.shelf.now).left _ c.feed_all.new.reader c.in_ok-builder.builder c.feed_all.new.events c.finish.new.events
    c.in-Ok-finish.names
    (g.B.ByteReceiver.taken c.args.bytes.now) (g.B.ByteReceiver.taken c.feed_all.new.bytes) kept c.in_ok-builder.ensures fed
    (c.in-Ok-finish.ensures.ended fed.fed fed.read) (λ found is. c.read_builds_its_tree.ensures limits fed.fed found (omega arith) is))
    c.in_ok-doc-in-Ok-finish.ensures

pub returns-in-Err-finish-clause-refused : goal.returns-in-Err-finish-clause-refused
returns-in-Err-finish-clause-refused g c = λ told is.
    let limits = c.args.limits in
    let fed = c.in-Ok.ensures.fed in
    let kept : c.feed_all.new.reader.limits ≡ limits = c.feed_all.ensures.limits ∙ ap (λ (p : Progress). p.limits) c.in_ok-reader.ensures in
    let found = c.fault_of_reader.ensures.refused told cc in
    refused_at_end limits c.feed_all.new.reader.limits (g.S.Shelf.view c.args.shelf.now).left fed.fed _ _ c.in-Err-finish.fault told kept
    (c.in-Err-finish.ensures.ended fed.fed fed.read)
    found.1 found.0 fed.whole

pub returns-in-Err-finish-clause-stops : goal.returns-in-Err-finish-clause-stops
returns-in-Err-finish-clause-stops g c = λ told is.
    let limits = c.args.limits in
    let kept : c.feed_all.new.reader.limits ≡ limits = c.feed_all.ensures.limits ∙ ap (λ (p : Progress). p.limits) c.in_ok-reader.ensures in
    stops_at_end _ limits (g.S.Shelf.view c.args.shelf.now).left _ c.feed_all.new.reader _ _ _ _ c.settled_stays.ensures kept c.in-Ok.ensures.fed

pub returns-in_ok-doc-in-Ok-finish-clause-reads : goal.returns-in_ok-doc-in-Ok-finish-clause-reads
returns-in_ok-doc-in-Ok-finish-clause-reads g c =
    let reads = c.in-Ok.ensures.reads in
    record { held = reads.held; opens = reads.opens; rose = λ is. cc; rises = reads.rises; quiet = λ other. reads.quiet (λ is. cc) }

pub returns-in-Err-finish-clause-reads : goal.returns-in-Err-finish-clause-reads
returns-in-Err-finish-clause-reads g c =
    let reads = c.in-Ok.ensures.reads in
    record {
      held = reads.held;
      opens = reads.opens;
      rose = λ is. absurd (c.fault_of_reader.ensures.read cc);
      rises = reads.rises;
      quiet =
          λ other. reads.quiet (λ is. cc);
    }
