use Rattle.std.proofs.Common.{◌≡◌, map, drop}
use Rattle.std.specs.List.{list_any}
use Rattle.xml_tokens.specs.Markup.{Written}
use Rattle.xml_tokens.specs.Seen.{seen_attribute}
use Rattle.xml_state.specs.Namespaces.{is_undeclared, undeclaring}
use Rattle.xml_state.proofs.tags.has_undeclared_attribute.Given as goal

abbrev pub invariant-loop-attribute : goal.invariant-loop-attribute
invariant-loop-attribute l =
    list_any (λ (attribute : Written). is_undeclared l.scopes.bound attribute.name) (undeclaring (map seen_attribute (drop l.attribute-index l.attributes)))
    ≡ list_any (λ (attribute : Written). is_undeclared l.scopes.bound attribute.name) (undeclaring (map seen_attribute l.attributes))
