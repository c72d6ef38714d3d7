use Rattle.std.proofs.Common.{◌∙◌, ap, sym}
use Rattle.std.proofs.lemmas.Str.{chars-nil}
use Rattle.xml_events.specs.Events.{name_at}
use Rattle.schematron_entries.proofs.ReadLemmas.{gives, put_one, put_none}
use Rattle.schematron_entries.proofs.reading.give.Goals as goal

pub returns-in_ok-push : goal.returns-in_ok-push
returns-in_ok-push c = put_one _ _ _ _ (c.in_ok-push.ensures.items)
    (gives c.args.doc.now c.args.n c.in-Some.name _ c.uri.result.now _ c.requires (sym c.name.ensures.value ∙ c.in-Some.is)
    (c.uri.ensures ∙ ap (λ names. (name_at names c.in-Some.name).uri) c.names.ensures) chars-nil (sym c.is_same_text.ensures ∙ c.if-is_same_text.true))
    (c.local.ensures ∙ ap (λ names. (name_at names c.in-Some.name).local) c.names-then-is_same_text.ensures) c.text.ensures

pub returns-else-is_same_text : goal.returns-else-is_same_text
returns-else-is_same_text c = put_none _ _ _
    (gives c.args.doc.now c.args.n c.in-Some.name _ c.uri.result.now _ c.requires (sym c.name.ensures.value ∙ c.in-Some.is)
    (c.uri.ensures ∙ ap (λ names. (name_at names c.in-Some.name).uri) c.names.ensures) chars-nil (sym c.is_same_text.ensures ∙ c.if-is_same_text.false))
