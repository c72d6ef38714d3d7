-- A start tag in steps: what its names are in given bindings, and what it tells by given numbers.
use Rattle.std.specs.Prelude.{◌≡◌, ℕ, bytes_eq, nat_eq, Bool, false, ◌||◌, List, [], ◌∷◌, ◌++◌, map, Option, Some, None, if◌then◌else◌}
use Rattle.std.specs.List.{list_any}
use Rattle.inv_base.specs.Tree.{Name, Attribute}
use Rattle.xml_tokens.specs.Faults.{first_cause}
use Rattle.xml_tokens.specs.Markup.{Written, Tag}
use Rattle.xml_tokens.specs.declared.kind.XmlKind.{XmlKind}
use Rattle.xml_state.specs.Admission.{name_causes}
use Rattle.xml_events.specs.Events.{Event, starts, has_attribute, ends}
use Rattle.xml_events.specs.Names.{number_of, with_name}
use Rattle.xml_state.specs.Namespaces.{Binding, declared_binding, is_bad_binding, undeclaring, element_name, attributes_of, bindings_inside}
use Rattle.xml_state.specs.Scopes.{InScope}
use Rattle.xml_state.specs.States.{with_names, bindings_inside_innermost}

-- The attribute is a declaration that may not be.
abbrev pub declares_badly : Written → Bool
declares_badly attribute = elim (declared_binding attribute) [ None ↦ false | (Some binding) ↦ is_bad_binding binding ]

-- the expanded names of attributes, in their order
abbrev pub attribute_names : List Binding → List Written → List Name
attribute_names bindings attributes = map (λ (attribute : Attribute). attribute.name) (attributes_of bindings attributes)

-- the expanded names of a tag: that of the element before those of its attributes
abbrev pub tag_names : List Binding → Tag → List Name
tag_names bindings tag = element_name bindings tag.name ∷ attribute_names bindings tag.attributes

-- the numbers of names, each as it is seen
abbrev pub numbers_from : List Name → List Name → List ℕ
numbers_from names [] = []
numbers_from names (name ∷ more) = number_of name names ∷ numbers_from (with_name names name) more

-- the names of attributes as they are written
abbrev pub written_names : List Written → List (List ℕ)
written_names attributes = map (λ (attribute : Written). attribute.name) attributes

-- Some element of the list is the same as one before it, the first list being before the second.
abbrev pub twice_behind : {A : Type 0} → (A → A → Bool) → List A → List A → Bool
twice_behind same before [] = false
twice_behind same before (x ∷ list) = list_any (same x) before || twice_behind same (before ++ x ∷ []) list

-- what attributes with these numbers tell
abbrev pub numbered_events : List ℕ → List Written → List Event
numbered_events [] attributes = []
numbered_events (number ∷ numbers) attributes =
    elim attributes [ [] ↦ [] | (attribute ∷ more) ↦ has_attribute number attribute.value ∷ numbered_events numbers more ]

-- the same, the declarations among them
abbrev pub attribute_events : List ℕ → List Written → List Event
attribute_events numbers attributes = numbered_events numbers (undeclaring attributes)

-- what a tag at a place tells, whose names have these numbers
abbrev pub tag_events : List ℕ → Tag → ℕ → List Event
tag_events numbers tag place = elim numbers [
  | [] ↦ []
  | (number ∷ others) ↦ starts number place ∷ (attribute_events others tag.attributes ++ (if tag.is_empty then ends ∷ [] else []))
]

-- Two attributes are equal as written, or by the numbers of their names, which stand behind that of the element.
abbrev pub is_duplicated : Tag → List ℕ → Bool
is_duplicated tag numbers =
    twice_behind bytes_eq [] (written_names tag.attributes)
    || (elim numbers [ [] ↦ false | (number ∷ others) ↦ twice_behind nat_eq [] others ])

-- What is known once the names of a tag are read in these bindings, behind these names: what is bound, all names, and
-- the numbers of its own.
pub record AreNamed (inside : List Binding) (names : List Name) (tag : Tag) (bound : List Binding) (named : List Name) (numbers : List ℕ) : Type 0 where
  pub bindings : bound ≡ inside
  pub known : named ≡ with_names names (tag_names inside tag)
  pub numbered : numbers ≡ numbers_from names (tag_names inside tag)

-- What reading the names of a tag answers inside these elements: the first cause of a fault of them, and where there is
-- none they are known.
pub record ReadsNames (kind : Option XmlKind) (old new : InScope) (tag : Tag) (numbers : List ℕ) : Type 0 where
  pub fault : kind ≡ first_cause (name_causes (bindings_inside (bindings_inside_innermost old.open_elements) tag) tag)
  pub still : new.open_elements ≡ old.open_elements
  pub known : kind ≡ None → AreNamed (bindings_inside (bindings_inside_innermost old.open_elements) tag) old.names tag new.bound new.names numbers
