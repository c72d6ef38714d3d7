use Rattle.std.proofs.Common.{refl}
use Rattle.std.specs.Str.{chars}
use Rattle.xml_events.specs.Events.{name_at}
use Rattle.rule_library.specs.Asked.{schematron}
use Rattle.rule_library.proofs.AskLemmas.{literal, compared, other_uri}
use Rattle.rule_library.proofs.asking.is_schematron.Goals as goal

pub returns-then-is_same_text : goal.returns-then-is_same_text
returns-then-is_same_text c =
    compared _ _ _ _ _ schematron _ _ _ c.is_same_text.ensures c.if-is_same_text.true c.uri.ensures
    (literal schematron refl) c.is_same_text-then-is_same_text.ensures c.local.ensures

pub returns-else-is_same_text : goal.returns-else-is_same_text
returns-else-is_same_text c = other_uri _ _ _ _ schematron (name_at c.args.names.now c.args.id).local
    (chars c.args.local.now) c.is_same_text.ensures c.if-is_same_text.false c.uri.ensures (literal schematron refl)
