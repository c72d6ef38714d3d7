use Rattle.bind_said.specs.Saying.{said_by_row}
use Rattle.bind_said.proofs.MarkLemmas.{IsLeft}
use Rattle.bind_said.proofs.constants.mark_constants.Given as goal

abbrev pub invariant-rows : goal.invariant-rows
invariant-rows g l = IsLeft (said_by_row l.input.doc.now) l.rows l.initial.marks.items l.row-index l.marks.items
