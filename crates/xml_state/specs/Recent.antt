-- Names that were judged and numbered before, as they are kept.
use Rattle.std.specs.Prelude.{◌≡◌, ℕ, ◌<◌, Bool, true, not, ◌&&◌, ◌||◌, ◌==◌, nat_lt, nat_eq, List, string_bytes}
use Rattle.std.specs.List.{list_any, list_all}
use Rattle.inv_base.specs.Tree.{Name}
use Rattle.xml_events.specs.Names.{same_name, number_of}
use Rattle.xml_state.specs.Namespaces.{is_undeclared, element_name, attribute_name}
use Rattle.xml_state.specs.Scopes.{InScope}
use Rattle.xml_state.specs.declared.recent.Slot.{Slot}

-- What a slot holds is of an earlier stamp, or of this one and right.
abbrev pub is_right : (List ℕ → ℕ → Bool) → ℕ → Slot → Bool
is_right right stamp slot = nat_lt slot.stamp stamp || (slot.stamp == stamp && right (string_bytes slot.written) slot.number)

abbrev pub are_right : (List ℕ → ℕ → Bool) → ℕ → List Slot → Bool
are_right right stamp slots = list_all (is_right right stamp) slots

-- The name is one of them.
abbrev pub is_among : Name → List Name → Bool
is_among name names = list_any (λ n. same_name n name) names

-- It is one of them, and this is its number.
abbrev pub is_numbered : List Name → Name → ℕ → Bool
is_numbered names name number = is_among name names && nat_eq number (number_of name names)

-- In these bindings, a name of an element as written is declared, and has this number,
abbrev pub is_element : InScope → List ℕ → ℕ → Bool
is_element scope name number = not (is_undeclared scope.bound name) && is_numbered scope.names (element_name scope.bound name) number

-- and one of an attribute.
abbrev pub is_attribute : InScope → List ℕ → ℕ → Bool
is_attribute scope name number = not (is_undeclared scope.bound name) && is_numbered scope.names (attribute_name scope.bound name) number

-- What is kept of the stamp of the bindings in force is right.
pub record AreRecalled (scope : InScope) (stamp : ℕ) (elements attributes : List Slot) : Type 0 where
  pub positive : 0 < stamp
  pub elements_are : are_right (is_element scope) stamp elements ≡ true
  pub attributes_are : are_right (is_attribute scope) stamp attributes ≡ true
