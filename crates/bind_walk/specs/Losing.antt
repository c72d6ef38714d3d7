-- What of a document's nodes is unread and what is misplaced, by where names lead. No public clause cites it.
use Rattle.std.specs.Prelude.{ℕ, nat_lt, Bool, true, false, not, ◌&&◌, List, [], ◌∷◌, ◌++◌, take, codes, Option, Some, None}
use Rattle.std.specs.List.{list_any}
use Rattle.std.specs.Str.{bytes_eq}
use Rattle.inv_base.specs.declared.tree.Kind.{Kind}
use Rattle.inv_base.specs.declared.tree.Kind.TheVariants as kinds
use Rattle.inv_base.specs.Tree.{Name, Node}
use Rattle.inv_terms.specs.Values.{is_blank}
use Rattle.xml_events.specs.Events.{name_at}
use Rattle.node_arena.specs.Document.{Document, node_at}
use Rattle.node_arena.specs.Moves.{tree_nodes, is_child}
use Rattle.bind_rows.specs.declared.rows.Row.{Row}
use Rattle.bind_meaning.specs.Losses.{is_greater, lesser, place_of}
use Rattle.bind_walk.specs.Chains.{children}
use Rattle.bind_walk.specs.declared.lines.FoundLine.{FoundLine}
use Rattle.bind_walk.specs.declared.passed.Span.{Span}
use Rattle.bind_walk.specs.Passing.{gate, place_before}

-- ---- texts of a node alone

abbrev pub is_text_kind : Kind → Bool
is_text_kind kind = elim kind [ kinds.Document ↦ false | kinds.Element ↦ false | kinds.Attribute ↦ false | kinds.Text ↦ true ]

-- The node is a text, and not blank.
abbrev pub is_full_text : Document → ℕ → Bool
is_full_text d n = is_text_kind (node_at d.nodes n).kind && not (is_blank (node_at d.nodes n).text)

abbrev pub has_full_text : Document → ℕ → Bool
has_full_text d n = list_any (is_full_text d) (children d n)

abbrev pub is_schema : List ℕ → Bool
is_schema uri = bytes_eq uri (codes "http://www.w3.org/2001/XMLSchema-instance")

abbrev pub speaks_of_schema : List Name → Option ℕ → Bool
speaks_of_schema names None = false
speaks_of_schema names (Some name) = is_schema (name_at names name).uri

-- The text isn't blank, and the name doesn't speak of the schema.
abbrev pub is_full_value : Document → ℕ → Bool
is_full_value d n = not (is_blank (node_at d.nodes n).text) && not (speaks_of_schema d.names (node_at d.nodes n).name)

-- An element or attribute is unread, where it is known whether names lead to the node around it and to itself, and whether it is said.
abbrev pub unread_of : Kind → Bool → Bool → Bool → Bool → Bool → Bool
unread_of kind around inside said text value = elim kind [
  | kinds.Document ↦ false
  | kinds.Element ↦ inside && (not said && text)
  | kinds.Attribute ↦ around && (not said && value)
  | kinds.Text ↦ false
]

abbrev pub unread_by : Document → Bool → Bool → Bool → ℕ → Bool
unread_by d around inside said n = unread_of (node_at d.nodes n).kind around inside said (has_full_text d n) (is_full_value d n)

-- ---- places

-- the least place of lines, each right before one of these spans
abbrev pub least_before : List FoundLine → List Span → Option ℕ
least_before lines [] = None
least_before lines (span ∷ spans) = lesser (place_before lines span.from) (least_before lines spans)

abbrev pub greater : Option ℕ → Option ℕ → Option ℕ
greater None b = b
greater (Some a) None = Some a
greater (Some a) (Some b) = elim (nat_lt a b) [ true ↦ Some b | false ↦ Some a ]

-- The place is less than the greatest one before it.
abbrev pub is_late : Option ℕ → Option ℕ → Bool
is_late None top = false
is_late (Some place) top = is_greater place top

-- the greatest place that a child of this node has among some nodes
abbrev pub greatest_in : List Node → List Row → ℕ → List Node → Option ℕ
greatest_in nodes rows n [] = None
greatest_in nodes rows n (x ∷ xs) = greater (gate (is_child n x) (place_of nodes rows x)) (greatest_in nodes rows n xs)

-- the same among so many nodes from the first on
abbrev pub greatest : Document → List Row → ℕ → ℕ → Option ℕ
greatest d rows count n = greatest_in (tree_nodes d) rows n (take count (tree_nodes d))

-- the same of the nodes of a path, which is given from its end on
abbrev pub tops : Document → List Row → ℕ → List ℕ → List (Option ℕ)
tops d rows count [] = []
tops d rows count (n ∷ path) = tops d rows count path ++ greatest d rows count n ∷ []
