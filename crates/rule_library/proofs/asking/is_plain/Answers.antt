use Rattle.std.specs.Str.{chars}
use Rattle.xml_events.specs.Events.{name_at}
use Rattle.std.proofs.lemmas.Str.{chars-nil}
use Rattle.rule_library.proofs.AskLemmas.{compared, other_uri}
use Rattle.rule_library.proofs.asking.is_plain.Goals as goal

pub returns-then-is_same_text : goal.returns-then-is_same_text
returns-then-is_same_text c = λ value.
    compared _ _ _ _ _ _ _ _ _ c.is_same_text.ensures c.if-is_same_text.true c.uri.ensures chars-nil c.is_same_text-then-is_same_text.ensures c.local.ensures

pub returns-else-is_same_text : goal.returns-else-is_same_text
returns-else-is_same_text c = λ value. other_uri _ _ _ _ _ (name_at c.args.names.now c.args.id).local
    (chars c.args.local.now) c.is_same_text.ensures c.if-is_same_text.false c.uri.ensures chars-nil
