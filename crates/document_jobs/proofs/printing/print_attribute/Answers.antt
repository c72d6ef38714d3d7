use Rattle.std.proofs.Common.{[], ◌∷◌}
use Rattle.node_arena.specs.Document.{node_at}
use Rattle.inv_base.proofs.PrintingLemmas.{Prints-append, Prints-same}
use Rattle.document_jobs.proofs.OutlineLemmas.{attribute_line-bytes, deep}
use Rattle.document_jobs.proofs.printing.print_attribute.Goals as goal

pub returns : goal.returns
returns g c =
    Prints-same _ _ _ _ _ _ (attribute_line-bytes c.args.doc.now.names (node_at c.args.doc.now.nodes c.args.at.now.node) _
    (deep c.args.doc.now c.args.at.now c.requires) _ _ c.name.ensures.value c.text.ensures)
    (Prints-append _ _ _ _ _ _ _ _ c.print_indent.ensures
    (Prints-append (0x40 ∷ []) _ _ _ _ _ _ _ c.put.ensures (Prints-append _ _ _ _ _ _ _ _ c.print_name.ensures
    (Prints-append (0x3D ∷ []) _ _ _ _ _ _ _ c.put-2.ensures c.print_quoted_line.ensures))))
