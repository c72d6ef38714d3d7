-- What of a document no invoice keeps that is read from it by a table, and which elements stand where a schema wouldn't have them.
use Rattle.std.specs.Prelude.{ℕ, nat_lt, Bool, true, false, not, ◌&&◌, ◌||◌, List, [], ◌∷◌, filter, flat_map, map, codes, Option, Some, None}
use Rattle.std.specs.List.{list_any}
use Rattle.std.specs.Str.{bytes_eq}
use Rattle.inv_base.specs.declared.tree.Kind.TheVariants as kinds
use Rattle.inv_base.specs.Tree.{Name, Node, is_text}
use Rattle.inv_terms.specs.Values.{is_blank}
use Rattle.node_arena.specs.Moves.{is_child, tree_node}
use Rattle.bind_rows.specs.Added.{built}
use Rattle.bind_rows.specs.declared.rows.Row.{Row}
use Rattle.bind_rows.specs.declared.rows.Step.{Step}
use Rattle.bind_meaning.specs.Elements.{both, is_element}
use Rattle.bind_meaning.specs.Names.{has_element_name}
use Rattle.bind_meaning.specs.Terms.{is_on_a_way, is_passed_over, way_to}
use Rattle.bind_meaning.specs.Said.{is_said}

-- ---- unread: an element of the table, or an attribute of one, that has a text of its own and isn't said

-- the text of a node alone: the value of an attribute, the texts right inside an element joined
abbrev pub own_text : List Node → Node → List ℕ
own_text nodes node = elim node.kind [
  | kinds.Document ↦ []
  | kinds.Element ↦ flat_map (λ (inner : Node). inner.text) (filter (both is_text (is_child node.number)) nodes)
  | kinds.Attribute ↦ node.text
  | kinds.Text ↦ node.text
]

-- The name is one of the namespace of XML Schema instances, whose attributes speak of the schema and of nothing else (XML Schema part 1,
-- section 3.2.7).
abbrev pub is_of_schema : Option Name → Bool
is_of_schema None = false
is_of_schema (Some name) = bytes_eq name.uri (codes "http://www.w3.org/2001/XMLSchema-instance")

-- The node is an element of the table, or an attribute of one: the names of the element and of those around it are the beginning of some
-- row's path, guards aside. An attribute that speaks of the schema isn't.
abbrev pub is_of_the_table : List Node → List Row → Node → Bool
is_of_the_table nodes rows node = elim node.kind [
  | kinds.Document ↦ false
  | kinds.Element ↦ is_on_a_way nodes rows (way_to (node.number ∷ node.above))
  | kinds.Attribute ↦ is_on_a_way nodes rows (way_to node.above) && not (is_of_schema node.name)
  | kinds.Text ↦ false
]

abbrev pub is_unread : List Node → List Row → Node → Bool
is_unread nodes rows node =
    is_of_the_table nodes rows node && (not (is_blank (own_text nodes node)) && not (is_said nodes rows node.number))

-- the unread nodes in document order
unfoldable pub unread_nodes : List Node → List Row → List ℕ
unread_nodes nodes rows = map (λ (node : Node). node.number) (filter (is_unread nodes rows) nodes)

-- ---- lost: passed over with all that is inside, or unread

abbrev pub is_lost : List Node → List Row → Node → Bool
is_lost nodes rows node = is_passed_over nodes rows node || is_unread nodes rows node

unfoldable pub lost_nodes : List Node → List Row → List ℕ
lost_nodes nodes rows = map (λ (node : Node). node.number) (filter (is_lost nodes rows) nodes)

-- ---- misplaced: behind an element beside it that the table has later

-- the number in the table of the last element along a path of names, which are those of a way through the document
abbrev pub place_along : List Node → List Step → List ℕ → Option ℕ
place_along nodes path [] = None
place_along nodes [] (n ∷ way) = None
place_along nodes (step ∷ path) (n ∷ way) = elim (has_element_name step.name (tree_node nodes n)) [
  | true ↦ elim way [ [] ↦ Some step.number | (m ∷ rest) ↦ place_along nodes path way ]
  | false ↦ None
]

abbrev pub lesser : Option ℕ → Option ℕ → Option ℕ
lesser None b = b
lesser (Some a) None = Some a
lesser (Some a) (Some b) = elim (nat_lt b a) [ true ↦ Some b | false ↦ Some a ]

-- the least place that some row of these has at the end of the way
abbrev pub least_place : List Node → List Row → List ℕ → Option ℕ
least_place nodes [] way = None
least_place nodes (row ∷ rows) way = lesser (place_along nodes row.path way) (least_place nodes rows way)

-- the place of an element by the rows that nobody added, guards aside
abbrev pub place_of : List Node → List Row → Node → Option ℕ
place_of nodes rows node = elim (is_element node) [
  | true ↦ least_place nodes (built rows) (way_to (node.number ∷ node.above))
  | false ↦ None
]

abbrev pub is_greater : ℕ → Option ℕ → Bool
is_greater place None = false
is_greater place (Some other) = nat_lt place other

-- The other is a child of the same element, stands before, and has a greater place.
abbrev pub stands_too_early : List Node → List Row → Node → ℕ → ℕ → Node → Bool
stands_too_early nodes rows node around place other =
    is_child around other && (nat_lt other.number node.number && is_greater place (place_of nodes rows other))

abbrev pub is_behind_a_greater : List Node → List Row → Node → ℕ → Bool
is_behind_a_greater nodes rows node place = elim node.above [
  | [] ↦ false
  | (around ∷ above) ↦ list_any (stands_too_early nodes rows node around place) nodes
]

abbrev pub is_misplaced : List Node → List Row → Node → Bool
is_misplaced nodes rows node = elim (place_of nodes rows node) [ None ↦ false | Some place ↦ is_behind_a_greater nodes rows node place ]

-- the misplaced elements in document order
unfoldable pub misplaced_nodes : List Node → List Row → List ℕ
misplaced_nodes nodes rows = map (λ (node : Node). node.number) (filter (is_misplaced nodes rows) nodes)
