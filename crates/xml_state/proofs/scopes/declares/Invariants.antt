use Rattle.std.proofs.Common.{◌≡◌, map, drop}
use Rattle.xml_tokens.specs.Seen.{seen_attribute}
use Rattle.xml_state.specs.Namespaces.{declared_bindings}
use Rattle.xml_state.proofs.scopes.declares.Given as goal

abbrev pub invariant-loop-attribute : goal.invariant-loop-attribute
invariant-loop-attribute l = declared_bindings (map seen_attribute (drop l.attribute-index l.attributes)) ≡ declared_bindings (map seen_attribute l.attributes)
