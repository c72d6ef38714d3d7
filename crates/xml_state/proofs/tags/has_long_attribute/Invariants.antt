use Rattle.std.proofs.Common.{◌≡◌, map, drop}
use Rattle.std.specs.List.{list_any}
use Rattle.xml_tokens.specs.Markup.{Written}
use Rattle.xml_tokens.specs.Seen.{seen_attribute}
use Rattle.xml_state.specs.Admission.{is_long_name}
use Rattle.xml_state.proofs.tags.has_long_attribute.Given as goal

abbrev pub invariant-loop-attribute : goal.invariant-loop-attribute
invariant-loop-attribute l =
    list_any (λ (attribute : Written). is_long_name l.limits attribute.name) (map seen_attribute (drop l.attribute-index l.attributes))
    ≡ list_any (λ (attribute : Written). is_long_name l.limits attribute.name) (map seen_attribute l.attributes)
