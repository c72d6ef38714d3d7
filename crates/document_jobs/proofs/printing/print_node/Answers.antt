use Rattle.std.proofs.Common.{sym, ap, ◌∙◌}
use Rattle.std.specs.Prelude.{encode_utf8_all}
use Rattle.node_arena.specs.Document.{node_at}
use Rattle.inv_base.proofs.PrintingLemmas.{Prints-same}
use Rattle.document_jobs.specs.Outline.{line_as}
use Rattle.document_jobs.proofs.printing.print_node.Goals as goal

pub returns-in-Element : goal.returns-in-Element
returns-in-Element g c =
    Prints-same _ _ _ _ _ _ (ap (λ kind. encode_utf8_all (line_as kind c.args.doc.now.names (node_at c.args.doc.now.nodes c.args.at.now.node)))
    (sym c.in-Element.is ∙ c.kind.ensures)) c.print_element.ensures

pub returns-in-Attribute : goal.returns-in-Attribute
returns-in-Attribute g c =
    Prints-same _ _ _ _ _ _ (ap (λ kind. encode_utf8_all (line_as kind c.args.doc.now.names (node_at c.args.doc.now.nodes c.args.at.now.node)))
    (sym c.in-Attribute.is ∙ c.kind.ensures)) c.print_attribute.ensures

pub returns-in-Text : goal.returns-in-Text
returns-in-Text g c =
    Prints-same _ _ _ _ _ _ (ap (λ kind. encode_utf8_all (line_as kind c.args.doc.now.names (node_at c.args.doc.now.nodes c.args.at.now.node)))
    (sym c.in-Text.is ∙ c.kind.ensures)) c.print_text.ensures
