use Rattle.std.proofs.Common.{◌+◌, ◌-◌}
use Rattle.xml_profile.specs.Keeping.{bytes_taken}
use Rattle.xml_document.proofs.LoadLemmas.{Counting}
use Rattle.xml_document.proofs.loading.feed_all.Given as goal

-- what was fed stands before what is left
abbrev pub invariant-pieces : goal.invariant-pieces
invariant-pieces g l = Counting l.length (g.S.Shelf.view l.initial.shelf) (g.S.Shelf.view l.shelf) l.initial.reader.limits l.reader
    (g.E.Events.taken l.initial.events) (g.E.Events.taken l.events)
    (g.B.ByteReceiver.taken l.initial.bytes) (g.B.ByteReceiver.taken l.bytes)

abbrev pub decreases-pieces : goal.decreases-pieces
decreases-pieces g l = l.reader.limits.bytes + 2 - bytes_taken l.reader.stands
