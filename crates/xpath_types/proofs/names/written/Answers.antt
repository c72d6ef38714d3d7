use Rattle.std.proofs.Common.{sym, ap, ◌∙◌, [], ◌∷◌}
use Rattle.std.specs.Str.{chars}
use Rattle.xpath_types.specs.Scopes.{with_colon, written_name}
use Rattle.xpath_types.proofs.TextLemmas.{star}
use Rattle.xpath_types.proofs.names.written.Goals as goal

pub returns-in_ok-joined-in-AnyLocal : goal.returns-in_ok-joined-in-AnyLocal
returns-in_ok-joined-in-AnyLocal c = c.in_ok-joined-in-AnyLocal.ensures
    ∙ (ap (with_colon _) star ∙ (ap (λ prefix. with_colon prefix (42 ∷ [])) c.as_str-in-AnyLocal.ensures ∙ ap written_name (sym c.in-AnyLocal.is)))

pub returns-in_ok-joined-in-AnyPrefix : goal.returns-in_ok-joined-in-AnyPrefix
returns-in_ok-joined-in-AnyPrefix c = c.in_ok-joined-in-AnyPrefix.ensures
    ∙ (ap (λ prefix. with_colon prefix (chars c.as_str-in-AnyPrefix.result.now)) star ∙
    (ap (with_colon (42 ∷ [])) c.as_str-in-AnyPrefix.ensures ∙ ap written_name (sym c.in-AnyPrefix.is)))
