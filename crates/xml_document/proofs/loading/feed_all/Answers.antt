use Rattle.std.proofs.Common.{◌++◌, subst, ap, sym, ◌∙◌, arith}
use Rattle.std.proofs.lemmas.List.{length-take}
use Rattle.inv_base.specs.Outside.{ahead_of}
use Rattle.xml_document.specs.Loading.{IsRefused}
use Rattle.xml_document.proofs.ReadingLemmas.{ahead_of-append, none_taken}
use Rattle.xml_document.proofs.LoadLemmas.{going_reader, stopped_reader, counting_nothing, counting_more, feeding_falls, fed_whole, stops_with_piece}
use Rattle.xml_document.proofs.LoadLemmas.{refused_settled}
use Rattle.xml_document.proofs.loading.feed_all.Goals as goal

pub pieces-init : goal.pieces-init
pieces-init g c = counting_nothing (g.S.Shelf.view c.args.shelf.now) c.args.reader.now (g.E.Events.taken c.args.events.now)
    (g.B.ByteReceiver.taken c.args.bytes.now) c.requires.unread

pub pieces-preserved : goal.pieces-preserved
pieces-preserved g c =
    let so_far = c.pieces.invariant in
    let read = c.in-Ok.ensures in
    let fed = c.in-Ok-feed.ensures in
    let long = length-take c.in-Ok.count c.read.new.buf in
    counting_more _ _ (g.S.Shelf.view c.args.shelf.now) (g.S.Shelf.view c.pieces.shelf)
    (g.S.Shelf.view c.read.new.self) c.args.reader.now.limits c.pieces.reader c.feed.new.self _
    (g.E.Events.taken c.args.events.now) (g.E.Events.taken c.pieces.events) (g.E.Events.taken c.feed.new.events)
    (g.B.ByteReceiver.taken c.args.bytes.now) (g.B.ByteReceiver.taken c.pieces.bytes) (g.B.ByteReceiver.taken c.take.new.self)
    so_far (omega (arith, long, c.in_ok-length.ensures, read.bound)) read.held read.opens read.faults
    (read.left ∙ ap (λ x. ahead_of x (g.S.Shelf.view c.read.new.self).left) (sym c.split_at.ensures.front)) fed.limits fed.answer fed.read fed.told
    c.in_ok-take.ensures

pub pieces-smaller : goal.pieces-smaller
pieces-smaller g c =
    let so_far = c.pieces.invariant.feeding in
    let fed = c.in-Ok-feed.ensures in
    let going = going_reader c.feed.new.self fed.answer in
    feeding_falls c.args.reader.now.limits c.pieces.reader c.feed.new.self so_far.fed _ so_far.kept so_far.read so_far.going fed.limits
    (fed.read going so_far.fed so_far.read) fed.answer (omega arith)

pub returns-then-count-eq0-clause-fed : goal.returns-then-count-eq0-clause-fed
returns-then-count-eq0-clause-fed g c =
    let read = c.in-Ok.ensures in
    fed_whole _ (g.S.Shelf.view c.args.shelf.now) (g.S.Shelf.view c.pieces.shelf) (g.S.Shelf.view c.read.new.self) c.args.reader.now.limits c.pieces.reader _
    (g.E.Events.taken c.args.events.now) (g.E.Events.taken c.pieces.events)
    (g.B.ByteReceiver.taken c.args.bytes.now) (g.B.ByteReceiver.taken c.pieces.bytes) c.pieces.invariant read.left (none_taken _ _ c.if-count-eq0.true)
    (read.end c.if-count-eq0.true (omega arith))

pub returns-in-Err-feed-clause-refused : goal.returns-in-Err-feed-clause-refused
returns-in-Err-feed-clause-refused g c = λ told is.
    let so_far = c.pieces.invariant.feeding in
    let read = c.in-Ok.ensures in
    let fed = c.in-Err-feed.ensures in
    let found = c.fault_of_reader.ensures.refused told cc in
    let has_memory = stopped_reader c.feed.new.self c.in-Err-feed.fault fed.answer found.1 in
    subst (IsRefused c.args.reader.now.limits (g.S.Shelf.view c.args.shelf.now).left) (sym found.0)
    (refused_settled c.args.reader.now.limits (g.S.Shelf.view c.args.shelf.now).left (g.S.Shelf.view c.read.new.self).left c.feed.new.self _ c.in-Err-feed.fault
    (ahead_of-append so_far.fed _ _ _ _ _ so_far.content read.left (ap (λ x. so_far.fed ++ x) c.split_at.ensures.front))
    (fed.limits ∙ so_far.kept) (fed.read has_memory so_far.fed so_far.read) fed.answer c.settled_is_first.ensures)

pub returns-in-Err-feed-clause-stops : goal.returns-in-Err-feed-clause-stops
returns-in-Err-feed-clause-stops g c = λ told is.
    let read = c.in-Ok.ensures in
    let long = length-take c.in-Ok.count c.read.new.buf in
    stops_with_piece (g.S.Shelf.view c.args.shelf.now) (g.S.Shelf.view c.pieces.shelf)
    (g.S.Shelf.view c.read.new.self) c.args.reader.now.limits c.pieces.reader _
    (g.E.Events.taken c.args.events.now) (g.E.Events.taken c.pieces.events) c.settled_stays.ensures c.pieces.invariant.feeding read.left
    (omega (arith, long, c.requires.few))
