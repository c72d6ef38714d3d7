use Rattle.bind_said.specs.Saying.{said_by_scheme_named}
use Rattle.bind_said.proofs.MarkLemmas.{left-more, left-end}
use Rattle.bind_said.proofs.schemes.mark_at_rows.Goals as goal

pub rows-preserved : goal.rows-preserved
rows-preserved g c =
    left-more (said_by_scheme_named c.args.input.now.doc.now c.args.name) c.args.rows.now c.args.marks.now.items c.rows.row-index c.row-item.result c.rows.marks.items
    c.mark_at_row.new.marks.items c.rows-test.true c.row-item.is c.rows.invariant c.in_ok-mark_at_row.ensures

pub returns : goal.returns
returns g c =
    left-end (said_by_scheme_named c.args.input.now.doc.now c.args.name) c.args.rows.now c.args.marks.now.items c.rows.row-index c.rows.marks.items
    c.rows-test.false c.rows.invariant
