use Rattle.std.proofs.Common.{◌≡◌, ℕ, List, [], sym, ap, ◌∙◌}
use Rattle.inv_base.specs.Tree.{Name}
use Rattle.xml_events.specs.Events.{name_at}
use Rattle.bind_meaning.specs.Names.{is_spelled}
use Rattle.bind_meaning.specs.Currencies.{currency_id}
use Rattle.bind_seats.proofs.AttributeLemmas.{plain-some, plain-none}
use Rattle.bind_seats.proofs.currencies.is_currency_id.Goals as goal

pub returns-in-None : goal.returns-in-None
returns-in-None c = sym (plain-none c.args.doc.now c.args.n currency_id c.requires (sym c.name.ensures.value ∙ c.in-None.is))

spelled : (names others known : List Name) (id : ℕ) (uri local : List ℕ) → names ≡ known → others ≡ known → uri ≡ (name_at names id).uri
    → local ≡ (name_at others id).local
    → is_spelled [] currency_id (record { uri = uri; local = local }) ≡ is_spelled [] currency_id (name_at known id)
spelled names others known id uri local e f u l =
    ap (is_spelled [] currency_id) (λ i. record { uri = (u ∙ ap (λ ns. (name_at ns id).uri) e) i; local = (l ∙ ap (λ ns. (name_at ns id).local) f) i })

pub returns-in-Some : goal.returns-in-Some
returns-in-Some c =
    c.is_currency_name.ensures
    ∙ (spelled c.names.result.now c.names-in-Some.result.now c.args.doc.now.names c.in-Some.id _ _ c.names.ensures c.names-in-Some.ensures c.uri.ensures
    c.local.ensures
    ∙ sym (plain-some c.args.doc.now c.args.n c.in-Some.id currency_id c.requires (sym c.in-Some.ensures.value)))
