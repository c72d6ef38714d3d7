use Rattle.bind_said.specs.Saying.{said_by_scheme_named}
use Rattle.bind_said.proofs.MarkLemmas.{IsLeft}
use Rattle.bind_said.proofs.schemes.mark_at_rows.Given as goal

abbrev pub invariant-rows : goal.invariant-rows
invariant-rows g l = IsLeft (said_by_scheme_named l.input.doc.now l.name) l.rows l.initial.marks.items l.row-index l.marks.items
