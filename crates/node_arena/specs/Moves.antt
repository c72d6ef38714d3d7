-- Moves from one node of a document to another, as relations between the nodes of the plain tree in document order. A
-- node's number is its place among them.
use Rattle.std.specs.Prelude.{◌≡◌, ℕ, ◌+◌, ◌<◌, Bool, true, false, not, ◌&&◌, ◌==◌, nat_lt, nat_le, if◌then◌else◌, List, [], ◌∷◌, length, map, filter, find}
use Rattle.std.specs.Prelude.{drop, get_or, Option, Some, None, IfSome, option_map}
use Rattle.inv_base.specs.declared.tree.Kind.TheVariants as kinds
use Rattle.inv_base.specs.Tree.{Name, Forest, IsDocument, Node, document_nodes, is_among}
use Rattle.xml_events.specs.Events.{name_at}
use Rattle.xml_events.specs.Names.{same_name}
use Rattle.node_arena.specs.Document.{Placed, Built, Document, node_at, IsNumbered}

-- the nodes of a document as the plain tree has them
abbrev pub node_of : List Name → Placed → Node
node_of names node = record { number = node.number; kind = node.kind; name = option_map (name_at names) node.name; above = node.above; text = node.text }

abbrev pub tree_nodes : Document → List Node
tree_nodes document = map (node_of document.names) document.nodes

-- The document's nodes are those of the tree, node for node.
abbrev pub HasNodesOf : Document → Forest → Type 0
HasNodesOf document tree = tree_nodes document ≡ document_nodes tree

-- The document is one of a tree: its nodes are that tree's, node for node.
pub record IsOfATree (document : Document) : Type 0 where
  pub tree : Forest
  pub whole : IsDocument tree
  pub has_nodes : HasNodesOf document tree

-- What was built, with these names, is a whole document: no text may go on, its nodes can be numbered, and they are a
-- tree's.
pub record IsWhole (names : List Name) (b : Built) : Type 0 where
  pub ended : b.in_text ≡ false
  pub numbered : IsNumbered b.nodes names
  pub of_a_tree : IsOfATree (record { nodes = b.nodes; names = names })

-- the node of that number
abbrev pub tree_node : List Node → ℕ → Node
tree_node nodes n = get_or nodes n (record { number = 0; kind = kinds.Document; name = None; above = []; text = [] })

-- the nodes behind the one of that number
abbrev pub behind : ℕ → List Node → List Node
behind n nodes = drop (n + 1) nodes

abbrev pub is_attribute : Node → Bool
is_attribute node = elim node.kind [ kinds.Document ↦ false | kinds.Element ↦ false | kinds.Attribute ↦ true | kinds.Text ↦ false ]

-- the nearest of a node's ancestors
abbrev pub nearest : List ℕ → Option ℕ
nearest [] = None
nearest (n ∷ above) = Some n

abbrev pub is_nearest : ℕ → List ℕ → Bool
is_nearest n [] = false
is_nearest n (m ∷ above) = m == n

-- A child of the node of that number: an element or a text right inside it.
abbrev pub is_child : ℕ → Node → Bool
is_child n node = is_nearest n node.above && not (is_attribute node)

abbrev pub is_attribute_of : ℕ → Node → Bool
is_attribute_of n node = is_nearest n node.above && is_attribute node

-- The node of that number is one of its ancestors.
abbrev pub is_inside : ℕ → Node → Bool
is_inside n node = is_among n node.above

-- The number is behind the first one, and at most the last.
abbrev pub is_between : ℕ → ℕ → ℕ → Bool
is_between n last k = nat_lt n k && nat_le k last

-- the number of the first node of a sort
abbrev pub first_that : (Node → Bool) → List Node → Option ℕ
first_that is_so nodes = option_map (λ (node : Node). node.number) (find is_so nodes)

-- the number of the last node of a sort, or else this one
abbrev pub last_that : (Node → Bool) → ℕ → List Node → ℕ
last_that is_so n [] = n
last_that is_so n (node ∷ nodes) = last_that is_so (if is_so node then node.number else n) nodes

-- the element or document that a node is right inside
abbrev pub parent : List Node → ℕ → Option ℕ
parent nodes n = nearest (tree_node nodes n).above

-- the first child of a node
abbrev pub first_child : List Node → ℕ → Option ℕ
first_child nodes n = first_that (is_child n) nodes

-- the next child of a child's parent
abbrev pub next_sibling : List Node → ℕ → Option ℕ
next_sibling nodes n = if is_attribute (tree_node nodes n) then None
    else (elim (parent nodes n) [ None ↦ None | Some p ↦ first_that (is_child p) (behind n nodes) ])

-- the last node inside a node, at any depth, or itself where none is inside it
abbrev pub last_inside : List Node → ℕ → ℕ
last_inside nodes n = last_that (is_inside n) n (behind n nodes)

-- the first attribute of an element
abbrev pub first_attribute : List Node → ℕ → Option ℕ
first_attribute nodes n = first_that (is_attribute_of n) nodes

-- the next attribute of an attribute's element
abbrev pub next_attribute : List Node → ℕ → Option ℕ
next_attribute nodes n = if is_attribute (tree_node nodes n)
    then (elim (parent nodes n) [ None ↦ None | Some p ↦ first_that (is_attribute_of p) (behind n nodes) ]) else None

-- An element or attribute has the name of that number.
abbrev pub is_named : ℕ → Placed → Bool
is_named name node = elim node.name [ None ↦ false | Some k ↦ k == name ]

-- the chain of a name: the numbers of the elements and attributes that have it, in document order
abbrev pub chain : List Placed → ℕ → List ℕ
chain nodes name = map (λ (node : Placed). node.number) (filter (is_named name) nodes)

-- The element or attribute has the expanded name.
abbrev pub has_name : Name → Node → Bool
has_name name node = elim node.name [ None ↦ false | Some n ↦ same_name n name ]

-- the first of a chain
abbrev pub first_named : List Placed → ℕ → Option ℕ
first_named nodes name = nearest (chain nodes name)

-- the next of the chain that a node is on
abbrev pub next_named : List Placed → ℕ → Option ℕ
next_named nodes n = elim (node_at nodes n).name [ None ↦ None | Some name ↦ first_named (drop (n + 1) nodes) name ]

-- The element or attribute has the number that a search for a name found, where it found one.
abbrev pub has_found : Option ℕ → Placed → Bool
has_found None node = false
has_found (Some name) node = is_named name node

-- A move from a node leads where it is said to, always to a node behind it, and takes one step.
pub record Leads (document : Document) (n : ℕ) (where_to answer : Option ℕ) (before after : ℕ) : Type 0 where
  pub node : answer ≡ where_to
  pub behind : IfSome answer (λ m. (n < m) × (m < length document.nodes))
  pub step : after ≡ before + 1
