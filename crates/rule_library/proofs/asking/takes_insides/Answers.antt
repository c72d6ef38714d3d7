use Rattle.std.proofs.Common.{option_map, refl, sym, ap, ◌∙◌}
use Rattle.std.specs.Prelude.{codes}
use Rattle.xml_events.specs.Events.{name_at}
use Rattle.rule_library.specs.Asked.{takes_insides}
use Rattle.rule_library.proofs.AskLemmas.{is_named, one_of_three}
use Rattle.rule_library.proofs.asking.takes_insides.Goals as goal

pub returns-in-Some : goal.returns-in-Some
returns-in-Some c =
    let name = name_at c.args.names.now c.in-Some.id in
    one_of_three _ _ _ _ _ _ (is_named _ (codes "schema") name refl c.is_schematron.ensures)
    (is_named _ (codes "pattern") name refl c.is_schematron-in-Some.ensures)
    (is_named _ (codes "rule") name refl c.is_schematron-in-Some-2.ensures)
    ∙ sym (ap (λ p. takes_insides (option_map (name_at c.args.names.now) p)) c.in-Some.is)
