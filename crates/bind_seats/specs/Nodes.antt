-- What is known of the nodes of every document.
use Rattle.std.specs.Prelude.{◌≡◌, ℕ, ◌<◌, ◌^◌, suc, List, [], ◌∷◌, length, Some}
use Rattle.inv_base.specs.Tree.{Node}
use Rattle.node_arena.specs.Moves.{tree_node, parent, is_inside, is_between, last_inside}

-- The nodes have the numbers of their places, the first of them n.
abbrev pub Numbered : ℕ → List Node → Type 0
Numbered n [] = Unit {0}
Numbered n (node ∷ nodes) = (node.number ≡ n) × Numbered (suc n) nodes

-- They are those of a tree: the document's own comes first, each other one is right inside one before it, and what is
-- inside a node stands right behind it.
pub record Sound (nodes : List Node) : Type 0 where
  pub some : 0 < length nodes
  pub few : length nodes < 2 ^ 32
  pub numbered : Numbered 0 nodes
  pub top : (tree_node nodes 0).above ≡ []
  pub around : (n p : ℕ) → n < length nodes → parent nodes n ≡ Some p → (tree_node nodes n).above ≡ p ∷ (tree_node nodes p).above
  pub before : (n p : ℕ) → n < length nodes → parent nodes n ≡ Some p → p < n
  pub inside : (n k : ℕ) → n < length nodes → k < length nodes → is_inside n (tree_node nodes k) ≡ is_between n (last_inside nodes n) k
