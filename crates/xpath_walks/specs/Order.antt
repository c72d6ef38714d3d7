-- Document order of numbers of nodes.
use Rattle.std.specs.Prelude.{◌≡◌, ℕ, ◌<◌, Bool, true, ◌&&◌, nat_lt, List, [], ◌∷◌, length, map}
use Rattle.inv_base.specs.Tree.{Node, is_among}
use Rattle.xpath_items.specs.declared.item.Item.{Item}
use Rattle.xpath_items.specs.declared.item.Item.TheVariants as i
use Rattle.node_arena.specs.Moves.{tree_node}

-- nodes as items
abbrev pub node_items : List ℕ → List Item
node_items ns = map (λ n. i.Node n) ns

-- Each number is less than the next.
abbrev pub rises : List ℕ → Bool
rises [] = true
rises (n ∷ []) = true
rises (n ∷ (m ∷ ns)) = nat_lt n m && rises (m ∷ ns)

-- The numbers are those of some of all nodes, of which each has the number of its place.
pub record AreNumbers (all : List Node) (ns : List ℕ) : Type 0 where
  pub counted : (k : ℕ) → k < length all → (tree_node all k).number ≡ k
  pub within : (n : ℕ) → is_among n ns ≡ true → n < length all
