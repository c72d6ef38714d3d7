-- Elements and attributes of a document by their places in it, and their strings.
use Rattle.std.specs.Prelude.{ℕ, Bool, true, false, not, ◌&&◌, List, [], ◌∷◌, filter, flat_map, map}
use Rattle.std.specs.List.{list_any}
use Rattle.std.specs.Str.{bytes_eq}
use Rattle.inv_base.specs.declared.tree.Kind.{Kind}
use Rattle.inv_base.specs.declared.tree.Kind.TheVariants as kinds
use Rattle.inv_base.specs.Tree.{Node, is_among, string_of}
use Rattle.inv_terms.specs.Values.{is_blank, trimmed}
use Rattle.node_arena.specs.Moves.{is_child, is_attribute_of, tree_node}
use Rattle.bind_rows.specs.declared.names.ElementName.{ElementName}
use Rattle.bind_rows.specs.declared.names.Leaf.{Leaf}
use Rattle.bind_rows.specs.declared.names.Leaf.TheVariants as leaves
use Rattle.bind_rows.specs.declared.guards.Place.{Place}
use Rattle.bind_rows.specs.declared.guards.Test.{Test}
use Rattle.bind_rows.specs.declared.guards.Test.TheVariants as tests
use Rattle.bind_rows.specs.declared.guards.Guard.{Guard}
use Rattle.bind_rows.specs.declared.rows.Step.{Step}
use Rattle.bind_meaning.specs.Names.{has_element_name, has_plain_name}

abbrev pub number : Node → ℕ
number node = node.number

abbrev pub is_element_kind : Kind → Bool
is_element_kind kind = elim kind [ kinds.Document ↦ false | kinds.Element ↦ true | kinds.Attribute ↦ false | kinds.Text ↦ false ]

abbrev pub is_element : Node → Bool
is_element node = is_element_kind node.kind

-- the test holds of the node, tried only where the first one does
abbrev pub both : (Node → Bool) → (Node → Bool) → Node → Bool
both first second node = elim (first node) [ true ↦ second node | false ↦ false ]

-- the elements of the name right inside a node
abbrev pub children_named : List Node → ElementName → ℕ → List ℕ
children_named nodes name n = map number (filter (both (is_child n) (has_element_name name)) nodes)

-- the attributes of an element that have the local name and no namespace: one at most
abbrev pub attributes_named : List Node → List ℕ → ℕ → List ℕ
attributes_named nodes local n = map number (filter (both (is_attribute_of n) (has_plain_name local)) nodes)

-- the string of the node of that number
abbrev pub string_at : List Node → ℕ → List ℕ
string_at nodes n = string_of nodes (tree_node nodes n)

abbrev pub is_blank_at : List Node → ℕ → Bool
is_blank_at nodes n = is_blank (string_at nodes n)

-- An element stands inside the node.
abbrev pub has_element_inside : List Node → ℕ → Bool
has_element_inside nodes n = list_any (λ (node : Node). is_element node && is_among n node.above) nodes

-- ---- guards

-- the elements below one, along a path of names
abbrev pub elements_below : List Node → List ElementName → ℕ → List ℕ
elements_below nodes [] n = n ∷ []
elements_below nodes (name ∷ path) n = flat_map (elements_below nodes path) (children_named nodes name n)

abbrev pub leaves_at : List Node → Leaf → ℕ → List ℕ
leaves_at nodes leaves.Element n = n ∷ []
leaves_at nodes (leaves.Attribute local) n = attributes_named nodes local n

-- the strings of the nodes at a place below an element, without the white space around them
abbrev pub strings_at : List Node → Place → ℕ → List (List ℕ)
strings_at nodes place n = map (λ m. trimmed (string_at nodes m)) (flat_map (leaves_at nodes place.leaf) (elements_below nodes place.path n))

abbrev pub is_one_of : List (List ℕ) → List ℕ → Bool
is_one_of texts string = list_any (bytes_eq string) texts

abbrev pub is_full : List ℕ → Bool
is_full string = not (is_blank string)

abbrev pub passes : Test → List (List ℕ) → Bool
passes (tests.OneOf texts) strings = list_any (is_one_of texts) strings
passes (tests.NoneOf texts) strings = not (list_any (is_one_of texts) strings)
passes tests.Present strings = list_any is_full strings
passes tests.Absent strings = not (list_any is_full strings)

abbrev pub is_met : List Node → ℕ → Guard → Bool
is_met nodes n guard = passes guard.test (strings_at nodes guard.place n)

abbrev pub are_met : List Node → List Guard → ℕ → Bool
are_met nodes [] n = true
are_met nodes (guard ∷ guards) n = elim (is_met nodes n guard) [ true ↦ are_met nodes guards n | false ↦ false ]

-- the elements that a step leads to from a node: those of its name right inside it at which its guards hold
abbrev pub met : List Node → Step → ℕ → List ℕ
met nodes step n = filter (are_met nodes step.guards) (children_named nodes step.name n)
