use Rattle.std.proofs.Common.{sym, ◌∙◌}
use Rattle.bind_terms.proofs.NodeLists.{named-uri}
use Rattle.bind_terms.proofs.attributes.has_plain_name.Goals as goal

pub returns-then-is_same_text : goal.returns-then-is_same_text
returns-then-is_same_text c =
    c.is_same_text-then-is_same_text.ensures
    ∙ named-uri c.args.doc.now c.args.n _ _ _ c.in-Some.name _ _ c.requires c.in-Some.ensures.value
    (sym c.is_same_text.ensures ∙ c.if-is_same_text.true) c.local.ensures c.names.ensures c.uri.ensures
    c.names-then-is_same_text.ensures
