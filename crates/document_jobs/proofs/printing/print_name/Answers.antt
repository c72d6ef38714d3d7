use Rattle.std.proofs.Common.{◌++◌, List, ap, ◌∙◌}
use Rattle.std.specs.Prelude.{chars, encode_utf8_all}
use Rattle.inv_base.specs.Tree.{Name}
use Rattle.document_jobs.specs.Outline.{braced}
use Rattle.xml_events.specs.Events.{name_at}
use Rattle.inv_base.proofs.PrintingLemmas.{Prints-append, Prints-same}
use Rattle.document_jobs.proofs.OutlineLemmas.{encode-name}
use Rattle.document_jobs.proofs.printing.print_name.Goals as goal

pub returns-in-Some : goal.returns-in-Some
returns-in-Some g c =
    let uri = c.uri.ensures ∙ ap (λ (names : List Name). (name_at names c.in-Some.id).uri) c.names.ensures in
    let local = c.local.ensures ∙ ap (λ (names : List Name). (name_at names c.in-Some.id).local) c.names-in-Some.ensures in
    let named = encode-name c.args.doc.now.names c.in-Some.id _ _ uri local c.local.utf8 in
    rw c.in-Some.is (Prints-same _ _ _ _ _ _ (ap (λ x. encode_utf8_all (braced (chars c.uri.result.now)) ++ x) c.as_bytes.ensures.value ∙ named)
    (Prints-append _ _ _ _ _ _ _ _ c.print_uri.ensures c.put.ensures))
