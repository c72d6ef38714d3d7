-- The nodes that a pattern finds, wherever in the document it is taken as a path.
use Rattle.std.specs.Prelude.{ℕ, Bool, ◌||◌, ◌==◌, List, filter}
use Rattle.std.specs.List.{list_any}
use Rattle.inv_base.specs.Tree.{Node, is_among}
use Rattle.node_arena.specs.Moves.{tree_node, is_inside}
use Rattle.xpath_meaning.specs.Values.{Value}
use Rattle.xpath_meaning.specs.Expressions.{Exp}
use Rattle.xpath_meaning.specs.Patterns.{found_at}
use Rattle.xpath_walks.specs.Walks.{node_numbers}

-- the second node is the first or inside it
abbrev pub is_under : List Node → ℕ → ℕ → Bool
is_under nodes n k = k == n || is_inside n (tree_node nodes k)

-- The node is found from one of these.
abbrev pub is_reached : List Node → List (List ℕ × Value) → Exp → List ℕ → ℕ → Bool
is_reached nodes outer pattern from k = list_any (λ n. is_among k (found_at nodes outer pattern n)) from

-- It is found from some node of the document.
abbrev pub is_found : List Node → List (List ℕ × Value) → Exp → ℕ → Bool
is_found nodes outer pattern k = list_any (λ (node : Node). is_among k (found_at nodes outer pattern node.number)) nodes

-- the nodes that are found, in document order
abbrev pub all_found : List Node → List (List ℕ × Value) → Exp → List ℕ
all_found nodes outer pattern = node_numbers (filter (λ (node : Node). is_found nodes outer pattern node.number) nodes)

-- the nodes that are reached from some
abbrev pub all_reached : List Node → List (List ℕ × Value) → Exp → List ℕ → List ℕ
all_reached nodes outer pattern from = node_numbers (filter (λ (node : Node). is_reached nodes outer pattern from node.number) nodes)
