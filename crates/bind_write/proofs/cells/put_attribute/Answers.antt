use Rattle.bind_write.proofs.TextLemmas.{row-plain}
use Rattle.bind_write.proofs.cells.put_attribute.Goals as goal

pub put_row_attribute-requires-clause-plain : goal.put_row_attribute-requires-clause-plain
put_row_attribute-requires-clause-plain g c = row-plain c.args.source.now.rows.now c.args.number c.in-Some.row.now _ c.requires.source.notes c.in-Some.ensures
    c.in-Attribute.is
