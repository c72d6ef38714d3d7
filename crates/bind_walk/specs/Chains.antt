-- The children and the attributes of a node by their numbers, and how moves lead through them.
use Rattle.std.specs.Prelude.{◌≡◌, ℕ, ◌-◌, ◌<◌, Bool, true, List, [], ◌∷◌, length, map, filter, drop, Option, Some, None, IfSome}
use Rattle.inv_base.specs.Tree.{Node}
use Rattle.node_arena.specs.Document.{Document}
use Rattle.node_arena.specs.Moves.{tree_nodes, tree_node, is_child, is_attribute_of, first_child, next_sibling, first_attribute, next_attribute}

abbrev pub number : Node → ℕ
number node = node.number

-- the numbers of the nodes of a sort, in document order
abbrev pub numbers_of : (Node → Bool) → Document → List ℕ
numbers_of is_so d = map number (filter is_so (tree_nodes d))

-- the same from a node on, none where there is no node
abbrev pub numbers_from : (Node → Bool) → Document → Option ℕ → List ℕ
numbers_from is_so d None = []
numbers_from is_so d (Some m) = map number (filter is_so (drop m (tree_nodes d)))

abbrev pub children : Document → ℕ → List ℕ
children d n = numbers_of (is_child n) d

abbrev pub attributes : Document → ℕ → List ℕ
attributes d n = numbers_of (is_attribute_of n) d

-- Where there is a node, it is one of the document and of the sort.
abbrev pub IsAt : (Node → Bool) → Document → Option ℕ → Type 0
IsAt is_so d at = IfSome at (λ m. (m < length d.nodes) × (is_so (tree_node (tree_nodes d) m) ≡ true))

-- how many nodes there are from it on
abbrev pub still : Document → Option ℕ → ℕ
still d None = 0
still d (Some m) = length d.nodes - m

-- A first node, and from each the next, are those of a sort in document order.
pub record Leading (is_so : Node → Bool) (d : Document) (first : Option ℕ) (next : ℕ → Option ℕ) : Type 0 where
  pub begins : numbers_from is_so d first ≡ numbers_of is_so d
  pub starts : IsAt is_so d first
  pub goes_on : (m : ℕ) → m < length d.nodes → is_so (tree_node (tree_nodes d) m) ≡ true → numbers_from is_so d (Some m) ≡ m ∷ numbers_from is_so d (next m)
  pub stays : (m : ℕ) → m < length d.nodes → is_so (tree_node (tree_nodes d) m) ≡ true → IsAt is_so d (next m)

pub record IsChained (d : Document) : Type 0 where
  pub numbers : (n : ℕ) → n < length d.nodes → (tree_node (tree_nodes d) n).number ≡ n
  pub children : (n : ℕ) → Leading (is_child n) d (first_child (tree_nodes d) n) (next_sibling (tree_nodes d))
  pub attributes : (n : ℕ) → Leading (is_attribute_of n) d (first_attribute (tree_nodes d) n) (next_attribute (tree_nodes d))
