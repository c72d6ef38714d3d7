use Rattle.std.proofs.Common.{length}
use Rattle.xml_profile.specs.Courses.{GoesOn}
use Rattle.xml_profile.proofs.cursor.Cursor.read.Given as goal

abbrev pub invariant-turns : goal.invariant-turns
invariant-turns g l = GoesOn l.reading.ended l.reading.limits l.fn.self l.self l.bytes l.rest (g.E.Events.taken l.fn.events) (g.E.Events.taken l.events)

abbrev pub decreases-turns : goal.decreases-turns
decreases-turns g l = length l.rest
