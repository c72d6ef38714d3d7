use Rattle.std.proofs.Common.{◌≡◌, map, drop}
use Rattle.std.specs.List.{list_any}
use Rattle.xml_tokens.specs.Seen.{seen_attribute}
use Rattle.xml_state.specs.Namespaces.{is_bad_binding, declared_bindings}
use Rattle.xml_state.proofs.tags.has_bad_namespace.Given as goal

abbrev pub invariant-loop-attribute : goal.invariant-loop-attribute
invariant-loop-attribute l =
    list_any is_bad_binding (declared_bindings (map seen_attribute (drop l.attribute-index l.attributes))) ≡ list_any is_bad_binding
    (declared_bindings (map seen_attribute l.attributes))
