use Rattle.std.proofs.Common.{◌≡◌, map, drop, ◌++◌}
use Rattle.xml_tokens.specs.Seen.{seen_attribute}
use Rattle.xml_state.specs.States.{with_names}
use Rattle.xml_state.specs.StartTags.{attribute_names, numbers_from}
use Rattle.xml_state.proofs.numbering.number_attributes.Given as goal

abbrev pub invariant-loop-attribute : goal.invariant-loop-attribute
invariant-loop-attribute l =
    let before = l.initial.scopes in
    let rest = attribute_names before.bound (map seen_attribute (drop l.attribute-index l.attributes)) in
    let all = attribute_names before.bound (map seen_attribute l.attributes) in
    record {
      same_open : l.scopes.open_elements ≡ before.open_elements;
      same_bound : l.scopes.bound ≡ before.bound;
      names : with_names l.scopes.names rest ≡ with_names before.names all;
      numbers : l.numbers.items ++ numbers_from l.scopes.names rest ≡ l.initial.numbers.items ++ numbers_from before.names all;
    }
