-- Which tokens may stand behind others, and for which kind of fault one may not.
use Rattle.std.specs.Prelude.{ℕ, ◌+◌, Bool, false, not, ◌&&◌, ◌||◌, ◌==◌, nat_lt, List, [], ◌∷◌, ◌++◌, length, Option, Some, None, if◌then◌else◌, bytes_eq}
use Rattle.std.specs.List.{list_any}
use Rattle.inv_base.specs.Characters.{is_white_space}
use Rattle.inv_base.specs.Tree.{Name, Attribute}
use Rattle.xml_tokens.specs.Faults.{Cause, first_cause}
use Rattle.xml_tokens.specs.declared.kind.XmlKind.{XmlKind}
use Rattle.xml_tokens.specs.declared.kind.XmlKind.TheVariants.{TextOutside, TooManyAttributes, NameTooLong, Mismatched, SecondRoot, BadNamespace}
use Rattle.xml_tokens.specs.declared.kind.XmlKind.TheVariants.{UndeclaredPrefix, DuplicateAttribute, TooDeep, TooManyNames, TooManyNodes}
use Rattle.xml_state.specs.declared.limits.Limits.{Limits}
use Rattle.xml_events.specs.Names.{same_name}
use Rattle.xml_tokens.specs.Markup.{Written, Tag, Token, a_mark, an_aside, a_character, a_reference, a_section, a_start_tag, an_end_tag}
use Rattle.xml_state.specs.Namespaces.{Binding, declared_bindings, undeclaring, is_bad_binding, is_undeclared, attributes_of}
use Rattle.xml_state.specs.States.{State, Open, is_outside, is_innermost, bindings_in, attributes_in, names_behind}

-- Two places of the list have the same.
abbrev pub has_twice : {A : Type 0} → (A → A → Bool) → List A → Bool
has_twice same [] = false
has_twice same (x ∷ list) = list_any (same x) list || has_twice same list

-- A text node would begin that is one too many.
abbrev pub is_text_too_many : Limits → State → Bool
is_text_too_many limits s = not s.in_text && nat_lt limits.nodes (s.nodes + 1)

-- the fault of characters, by whether they may stand outside the root
abbrev pub text_fault : Limits → State → Bool → Option XmlKind
text_fault limits s may_be_outside =
    if is_outside s then (if may_be_outside then None else Some TextOutside)
    else (if is_text_too_many limits s then Some TooManyNodes else None)

-- The name takes too many bytes.
abbrev pub is_long_name : Limits → List ℕ → Bool
is_long_name limits name = nat_lt limits.name (length name)

-- Some name of the tag is too long.
abbrev pub has_long_name : Limits → Tag → Bool
has_long_name limits tag = is_long_name limits tag.name || list_any (λ (attribute : Written). is_long_name limits attribute.name) tag.attributes

-- Some prefix of the tag isn't bound, those of its declarations aside.
abbrev pub has_undeclared_prefix : List Binding → Tag → Bool
has_undeclared_prefix bindings tag =
    is_undeclared bindings tag.name || list_any (λ (attribute : Written). is_undeclared bindings attribute.name) (undeclaring tag.attributes)

-- Two attributes are equal as written, declarations among them, or as expanded.
abbrev pub has_duplicate : List Binding → Tag → Bool
has_duplicate bindings tag =
    has_twice (λ (a b : Written). bytes_eq a.name b.name) tag.attributes
    || has_twice (λ (a b : Attribute). same_name a.name b.name) (attributes_of bindings tag.attributes)

-- The causes of a fault of a start tag, in their order: what it shows by itself where it stands,
abbrev pub early_causes : Limits → State → Tag → List Cause
early_causes limits s tag =
    record { holds = nat_lt limits.attributes (length tag.attributes); kind = TooManyAttributes }
    ∷ record { holds = has_long_name limits tag; kind = NameTooLong }
    ∷ record { holds = is_outside s && s.root_seen; kind = SecondRoot }
    ∷ record { holds = list_any is_bad_binding (declared_bindings tag.attributes); kind = BadNamespace }
    ∷ []

-- its names in the bindings in it,
abbrev pub name_causes : List Binding → Tag → List Cause
name_causes bindings tag =
    record { holds = has_undeclared_prefix bindings tag; kind = UndeclaredPrefix }
    ∷ record { holds = has_duplicate bindings tag; kind = DuplicateAttribute }
    ∷ []

-- and the sizes of the document, by the elements that are open around it, and the names and the nodes behind it.
abbrev pub late_causes : Limits → List Open → List Name → ℕ → List Cause
late_causes limits elements names nodes =
    record { holds = nat_lt limits.depth (length elements + 1); kind = TooDeep }
    ∷ record { holds = nat_lt limits.names (length names); kind = TooManyNames }
    ∷ record { holds = nat_lt limits.nodes nodes; kind = TooManyNodes }
    ∷ []

abbrev pub start_tag_causes : Limits → State → Tag → List Cause
start_tag_causes limits s tag =
    early_causes limits s tag
    ++ (name_causes (bindings_in s tag) tag ++ late_causes limits s.open_elements (names_behind s tag) (s.nodes + (1 + length (attributes_in s tag))))

-- the causes of a fault of an end tag, in their order
abbrev pub end_tag_causes : Limits → State → List ℕ → List Cause
end_tag_causes limits s name =
    record { holds = is_long_name limits name; kind = NameTooLong } ∷ record { holds = not (is_innermost s.open_elements name); kind = Mismatched } ∷ []

-- the kind of the fault of a token behind others, none where it is admissible
unfoldable pub fault_of : Limits → State → Token → Option XmlKind
fault_of limits s a_mark = None
fault_of limits s an_aside = None
fault_of limits s (a_character c) = text_fault limits s (is_white_space c)
fault_of limits s (a_reference c) = text_fault limits s false
fault_of limits s (a_section text) = if length text == 0 && not (is_outside s) then None else text_fault limits s false
fault_of limits s (a_start_tag tag) = first_cause (start_tag_causes limits s tag)
fault_of limits s (an_end_tag name) = first_cause (end_tag_causes limits s name)
