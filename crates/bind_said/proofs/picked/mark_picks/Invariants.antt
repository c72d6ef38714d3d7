use Rattle.bind_said.specs.Judged.{said_by_pick_named}
use Rattle.bind_said.proofs.MarkLemmas.{IsLeft}
use Rattle.bind_said.proofs.picked.mark_picks.Given as goal

abbrev pub invariant-picks : goal.invariant-picks
invariant-picks g l = IsLeft (said_by_pick_named l.input.doc.now l.names l.rows) l.picks l.initial.marks.items l.pick-index l.marks.items
