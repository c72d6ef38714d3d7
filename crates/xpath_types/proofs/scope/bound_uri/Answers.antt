use Rattle.std.proofs.Common.{sym, ap, ◌∙◌, option_map, Some}
use Rattle.std.specs.Str.{chars}
use Rattle.xpath_types.proofs.ScopeLemmas.{uri-looked_up, text_of}
use Rattle.xpath_types.proofs.scope.bound_uri.Goals as goal

pub returns-in-Some : goal.returns-in-Some
returns-in-Some c = ap (λ text. Some (chars text)) c.as_str.ensures.value
    ∙ (ap (option_map text_of) c.in-Some.ensures.value ∙ sym (uri-looked_up c.args.prefix.now c.utf8.prefix c.args.prefixes.now.entries))

pub returns-in-None : goal.returns-in-None
returns-in-None c = ap (option_map text_of) c.in-None.ensures.value ∙ sym (uri-looked_up c.args.prefix.now c.utf8.prefix c.args.prefixes.now.entries)
