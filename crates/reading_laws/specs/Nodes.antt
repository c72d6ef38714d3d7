-- Nodes in document order.
use Rattle.std.specs.Prelude.{ℕ, ◌≤◌, suc, List, [], ◌∷◌}
use Rattle.inv_base.specs.Tree.{Node}

-- The numbers of the nodes rise, from this one on.
abbrev pub Rise : ℕ → List Node → Type 0
Rise n [] = Unit {0}
Rise n (node ∷ nodes) = (n ≤ node.number) × Rise (suc node.number) nodes
