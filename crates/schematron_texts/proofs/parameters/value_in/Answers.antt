use Rattle.std.proofs.Common.{sym, ap, ◌∙◌, option_map, Some}
use Rattle.std.specs.Str.{chars}
use Rattle.schematron_texts.proofs.ParameterLemmas.{value-looked_up, text_of}
use Rattle.schematron_texts.proofs.parameters.value_in.Goals as goal

pub returns-in-Some : goal.returns-in-Some
returns-in-Some c = ap (λ text. Some (chars text)) c.as_str.ensures.value
    ∙ (ap (option_map text_of) c.in-Some.ensures.value ∙ sym (value-looked_up c.args.name.now c.utf8.name c.args.values.now.entries))

pub returns-in-None : goal.returns-in-None
returns-in-None c = ap (option_map text_of) c.in-None.ensures.value ∙ sym (value-looked_up c.args.name.now c.utf8.name c.args.values.now.entries)
