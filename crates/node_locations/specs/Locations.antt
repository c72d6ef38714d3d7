-- The location of a node: a path of XPath 2.0 from the root down that picks this node alone. Its names are told by their
-- local parts and their namespaces, so that it stands without any prefix.
use Rattle.std.specs.Prelude.{◌≡◌, ℕ, ◌+◌, ◌<◌, ◌==◌, ◌&&◌, Bool, true, false, if◌then◌else◌, List, [], ◌∷◌, ◌++◌, length, take, filter, flat_map, get_or}
use Rattle.std.specs.Prelude.{codes, decimal, Option, Some, None}
use Rattle.inv_base.specs.declared.tree.Kind.{Kind}
use Rattle.inv_base.specs.declared.tree.Kind.TheVariants as kinds
use Rattle.inv_base.specs.Tree.{Name, Node}
use Rattle.xml_events.specs.Names.{same_name}
use Rattle.node_arena.specs.Document.{Document}
use Rattle.node_arena.specs.Moves.{tree_nodes, tree_node, nearest, is_child}

-- The same expanded name, or none in both: texts have none.
abbrev pub same_names : Option Name → Option Name → Bool
same_names None None = true
same_names None (Some b) = false
same_names (Some a) None = false
same_names (Some a) (Some b) = same_name a b

-- The second node is a child of the first one's parent, and has its name: an element beside an element, a text beside a text.
abbrev pub is_alike : Node → Node → Bool
is_alike a b = elim (nearest a.above) [ None ↦ false | Some p ↦ is_child p b && same_names a.name b.name ]

-- how many siblings like it stand before a node, and one
abbrev pub ordinal : List Node → ℕ → ℕ
ordinal nodes n = 1 + length (filter (is_alike (tree_node nodes n)) (take n nodes))

-- An apostrophe between apostrophes stands twice.
abbrev pub doubled : ℕ → List ℕ
doubled c = if c == 0x27 then 0x27 ∷ 0x27 ∷ [] else c ∷ []

-- a test of an expanded name: `*:local[namespace-uri()='uri']`
abbrev pub name_test : Name → List ℕ
name_test name = codes "*:" ++ (name.local ++ (codes "[namespace-uri()='" ++ (flat_map doubled name.uri ++ codes "']")))

abbrev pub optional_name_test : Option Name → List ℕ
optional_name_test None = []
optional_name_test (Some name) = name_test name

abbrev pub bracketed : ℕ → List ℕ
bracketed k = 0x5B ∷ (decimal k ++ 0x5D ∷ [])

-- the last step to a node of a kind, a name and an ordinal; the document has none, and an attribute is told by its name
abbrev pub step_of : Kind → Option Name → ℕ → List ℕ
step_of kinds.Document name k = []
step_of kinds.Element name k = 0x2F ∷ (optional_name_test name ++ bracketed k)
step_of kinds.Attribute name k = codes "/@" ++ optional_name_test name
step_of kinds.Text name k = codes "/text()" ++ bracketed k

abbrev pub step : List Node → ℕ → List ℕ
step nodes n = step_of (tree_node nodes n).kind (tree_node nodes n).name (ordinal nodes n)

-- the steps to a node from the root down, of its number and those of its ancestors, the nearest first
abbrev pub path : List Node → List ℕ → List ℕ
path nodes [] = []
path nodes (n ∷ above) = path nodes above ++ step nodes n

-- the document is the root itself
abbrev pub from_root : Kind → List ℕ → List ℕ
from_root kinds.Document steps = codes "/"
from_root kinds.Element steps = steps
from_root kinds.Attribute steps = steps
from_root kinds.Text steps = steps

-- the location of the node of that number
abbrev pub location : List Node → ℕ → List ℕ
location nodes n = from_root (tree_node nodes n).kind (path nodes (n ∷ (tree_node nodes n).above))

-- Elements and texts are counted among their siblings.
abbrev pub is_counted : Kind → Bool
is_counted kinds.Document = false
is_counted kinds.Element = true
is_counted kinds.Attribute = false
is_counted kinds.Text = true

-- The numbers are the ordinals of the document's elements and texts, by the numbers of the nodes.
pub record AreOrdinals (document : Document) (ordinals : List ℕ) : Type 0 where
  pub long : length ordinals ≡ length document.nodes
  pub are : (n : ℕ) → n < length document.nodes → is_counted (tree_node (tree_nodes document) n).kind ≡ true
      → get_or ordinals n 0 ≡ ordinal (tree_nodes document) n
