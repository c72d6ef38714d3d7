-- How moves lead through a document: from each node to the next in document order.
use Rattle.std.specs.Prelude.{◌≡◌, ℕ, ◌+◌, ◌<◌, ◌≤◌, true, false, List, ◌∷◌, length, Some, None}
use Rattle.std.proofs.Common.{◌⊎◌}
use Rattle.inv_base.specs.Tree.{Node}
use Rattle.node_arena.specs.Moves.{tree_node, is_attribute, is_inside, parent, first_child, next_sibling, last_inside, first_attribute, next_attribute}

-- Where the moves from the n-th node lead. A node comes before its attributes, these before its children, and a node
-- with all that is inside it before its next sibling.
pub record LeadsOn (nodes : List Node) (n : ℕ) : Type 0 where
  pub attribute : (m : ℕ) → first_attribute nodes n ≡ Some m → m ≡ n + 1
  pub child : (m : ℕ) → first_attribute nodes n ≡ None → first_child nodes n ≡ Some m → m ≡ n + 1
  pub leaf : first_attribute nodes n ≡ None → first_child nodes n ≡ None → last_inside nodes n ≡ n
  pub sibling : (m : ℕ) → next_sibling nodes n ≡ Some m → m ≡ last_inside nodes n + 1
  pub last_child : (p : ℕ) → is_attribute (tree_node nodes n) ≡ false → next_sibling nodes n ≡ None → parent nodes n ≡ Some p
      → last_inside nodes p ≡ last_inside nodes n
  pub next_attribute_is : (m : ℕ) → next_attribute nodes n ≡ Some m → m ≡ n + 1
  pub first_behind : (p m : ℕ) → is_attribute (tree_node nodes n) ≡ true → next_attribute nodes n ≡ None → parent nodes n ≡ Some p
      → first_child nodes p ≡ Some m → m ≡ n + 1
  pub none_behind : (p : ℕ) → is_attribute (tree_node nodes n) ≡ true → next_attribute nodes n ≡ None → parent nodes n ≡ Some p
      → first_child nodes p ≡ None → last_inside nodes p ≡ n
  pub attribute_ends : is_attribute (tree_node nodes n) ≡ true → last_inside nodes n ≡ n
  pub around : (p : ℕ) → parent nodes n ≡ Some p → (tree_node nodes n).above ≡ p ∷ (tree_node nodes p).above
  pub whole : parent nodes n ≡ None → last_inside nodes n + 1 ≡ length nodes
  -- The next node is right inside this one or right inside one that is around it.
  pub next_parent : n + 1 < length nodes → (p : ℕ) × (parent nodes (n + 1) ≡ Some p) × ((p ≡ n) ⊎ (is_inside p (tree_node nodes n) ≡ true))
  -- a node is inside no more nodes than stand before it
  pub level : length (tree_node nodes n).above ≤ n
