use Rattle.std.proofs.Common.{map, drop}
use Rattle.xml_tokens.specs.Seen.{seen_attribute}
use Rattle.xml_state.specs.StartTags.{attribute_events}
use Rattle.xml_state.specs.Taking.{TakesUpTo}
use Rattle.xml_state.proofs.telling.tell_attributes.Given as goal

abbrev pub invariant-loop-attribute : goal.invariant-loop-attribute
invariant-loop-attribute g l =
    TakesUpTo (attribute_events l.numbers (map seen_attribute l.attributes))
    (attribute_events l.rest (map seen_attribute (drop l.attribute-index l.attributes)))
    (g.E.Events.taken l.initial.events) (g.E.Events.taken l.events)
