use Rattle.node_arena.specs.Document.{node_at}
use Rattle.inv_base.proofs.PrintingLemmas.{Prints-append, Prints-same}
use Rattle.document_jobs.proofs.OutlineLemmas.{text_line-bytes, deep}
use Rattle.document_jobs.proofs.printing.print_text.Goals as goal

pub returns : goal.returns
returns g c =
    Prints-same _ _ _ _ _ _ (text_line-bytes c.args.doc.now.names (node_at c.args.doc.now.nodes c.args.at.now.node) _
    (deep c.args.doc.now c.args.at.now c.requires) _ c.text.ensures)
    (Prints-append _ _ _ _ _ _ _ _ c.print_indent.ensures c.print_quoted_line.ensures)
