-- What a table names, as a document has it: names by their numbers in the document's table of names, and guards over these.
use Rattle.std.specs.Prelude.{ℕ, Bool, true, false, not, ◌&&◌, ◌==◌, List, [], ◌∷◌, map, Option, Some, None}
use Rattle.std.specs.List.{list_any}
use Rattle.std.specs.Str.{bytes_eq}
use Rattle.inv_base.specs.Tree.{string_of}
use Rattle.inv_terms.specs.Values.{is_blank, trimmed}
use Rattle.xml_events.specs.Names.{find_name}
use Rattle.node_arena.specs.Document.{Document, node_at}
use Rattle.node_arena.specs.Moves.{tree_nodes, tree_node, has_found}
use Rattle.bind_rows.specs.declared.names.ElementName.{ElementName}
use Rattle.bind_rows.specs.declared.names.Leaf.{Leaf}
use Rattle.bind_rows.specs.declared.names.Leaf.TheVariants as leaves
use Rattle.bind_rows.specs.declared.guards.Test.{Test}
use Rattle.bind_rows.specs.declared.guards.Test.TheVariants as tests
use Rattle.bind_rows.specs.declared.guards.Guard.{Guard}
use Rattle.bind_rows.specs.Namespaces.{uri_of}
use Rattle.bind_walk.specs.declared.names.FoundLeaf.{FoundLeaf}
use Rattle.bind_walk.specs.declared.names.FoundLeaf.TheVariants as founds
use Rattle.bind_walk.specs.declared.guards.FoundGuard.{FoundGuard}
use Rattle.bind_walk.specs.Chains.{children, attributes}

-- ---- names

abbrev pub found_element : Document → ElementName → Option ℕ
found_element d name = find_name (record { uri = uri_of name.namespace; local = name.local }) d.names

-- an attribute of a table has no namespace
abbrev pub found_leaf : Document → Leaf → FoundLeaf
found_leaf d leaves.Element = founds.Element
found_leaf d (leaves.Attribute local) = founds.Attribute (find_name (record { uri = []; local = local }) d.names)

abbrev pub is_number : ℕ → Option ℕ → Bool
is_number name None = false
is_number name (Some k) = k == name

-- The number that was found, if any, is this one.
abbrev pub is_same_number : Option ℕ → ℕ → Bool
is_same_number None name = false
is_same_number (Some own) name = name == own

-- ---- guards

abbrev pub found_guard : Document → Guard → FoundGuard
found_guard d guard = record { path = map (found_element d) guard.place.path; leaf = found_leaf d guard.place.leaf; test = guard.test }

abbrev pub string_at : Document → ℕ → List ℕ
string_at d n = string_of (tree_nodes d) (tree_node (tree_nodes d) n)

abbrev pub is_one_of : List (List ℕ) → List ℕ → Bool
is_one_of texts string = list_any (bytes_eq string) texts

-- The string is one that the test looks for.
abbrev pub looks_for : Test → List ℕ → Bool
looks_for (tests.OneOf texts) string = is_one_of texts string
looks_for (tests.NoneOf texts) string = is_one_of texts string
looks_for tests.Present string = not (is_blank string)
looks_for tests.Absent string = not (is_blank string)

-- The test is met where one is found, and not where none is found.
abbrev pub is_positive : Test → Bool
is_positive (tests.OneOf texts) = true
is_positive (tests.NoneOf texts) = false
is_positive tests.Present = true
is_positive tests.Absent = false

abbrev pub same_flag : Bool → Bool → Bool
same_flag true b = b
same_flag false b = not b

abbrev pub holds : Document → Test → ℕ → Bool
holds d test n = looks_for test (trimmed (string_at d n))

abbrev pub holds_named : Document → Test → Option ℕ → ℕ → Bool
holds_named d test name n = has_found name (node_at d.nodes n) && holds d test n

abbrev pub some_attribute : Document → Test → Option ℕ → ℕ → Bool
some_attribute d test name n = list_any (holds_named d test name) (attributes d n)

abbrev pub is_at : Document → Test → FoundLeaf → ℕ → Bool
is_at d test founds.Element n = holds d test n
is_at d test (founds.Attribute name) n = some_attribute d test name n

-- below an element, along a path of names
abbrev pub some_below : Document → FoundGuard → List (Option ℕ) → ℕ → Bool
some_below d guard [] n = is_at d guard.test guard.leaf n
some_below d guard (name ∷ path) n = list_any (λ m. has_found name (node_at d.nodes m) && some_below d guard path m) (children d n)

abbrev pub some_at : Document → FoundGuard → Option ℕ → List (Option ℕ) → ℕ → Bool
some_at d guard name path n = has_found name (node_at d.nodes n) && some_below d guard path n

abbrev pub is_met : Document → ℕ → FoundGuard → Bool
is_met d n guard = same_flag (is_positive guard.test) (some_below d guard guard.path n)
