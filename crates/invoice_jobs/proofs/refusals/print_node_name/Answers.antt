use Rattle.std.proofs.Common.{◌≡◌, ℕ, List, Option, Some, ap, sym, ◌∙◌}
use Rattle.std.specs.Prelude.{encode_utf8_all}
use Rattle.inv_base.specs.Tree.{Name}
use Rattle.std.proofs.lemmas.List.{get_or-map}
use Rattle.inv_base.proofs.PrintingLemmas.{Prints-append, Prints-same}
use Rattle.inv_base.proofs.TextLemmas.{encode-chars}
use Rattle.xml_events.specs.Events.{name_at}
use Rattle.node_arena.specs.Document.{document_node, node_at}
use Rattle.node_arena.specs.Moves.{node_of}
use Rattle.invoice_jobs.specs.Invoices.{node_name, name_prefix}
use Rattle.invoice_jobs.proofs.refusals.print_node_name.Goals as goal

pub returns-in-Some : goal.returns-in-Some
returns-in-Some g c =
    let d = c.args.doc.now in
    let placed = node_at d.nodes c.args.n in
    let same = get_or-map (node_of d.names) d.nodes c.args.n document_node _ c.requires in
    let is : placed.name ≡ Some c.in-Some.name = sym c.name.ensures.value ∙ c.in-Some.is in
    let text = ap node_name same ∙ ap (λ (o : Option ℕ). node_name (node_of d.names (record placed { name = o }))) is in
    let prefix = c.as_bytes.ensures.value ∙ (c.name_prefix.ensures ∙ ap name_prefix c.kind.ensures) in
    let named = c.local.ensures ∙ ap (λ (names : List Name). (name_at names c.in-Some.name).local) c.names.ensures in
    let local = c.as_bytes-in-Some.ensures.value ∙ (sym (encode-chars c.local.result.now c.local.utf8) ∙ ap encode_utf8_all named) in
    Prints-same _ _ _ _ _ _ (sym text) (Prints-append _ _ _ _ _ _ _ _ (Prints-same _ _ _ _ _ _ prefix c.put.ensures)
    (Prints-same _ _ _ _ _ _ local c.put-in-Some.ensures))
