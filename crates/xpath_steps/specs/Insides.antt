-- What is inside nodes, where some are inside others.
use Rattle.std.specs.Prelude.{◌≡◌, ℕ, Bool, true, false, ◌++◌, List, Option, Some, None}
use Rattle.inv_base.specs.Tree.{Node, is_among}
use Rattle.node_arena.specs.Moves.{tree_node, is_inside}
use Rattle.xpath_grammar.specs.declared.step.Axis.TheVariants as a
use Rattle.xpath_meaning.specs.Expressions.{NodeTest}
use Rattle.xpath_walks.specs.Walks.{axis_numbers}

-- the numbers of the nodes inside a node that pass
abbrev pub numbers_inside : List Node → Option NodeTest → ℕ → List ℕ
numbers_inside nodes test n = axis_numbers nodes a.Descendant n test

-- the node is inside the other, where there is another
abbrev pub is_covered : List Node → Option ℕ → ℕ → Bool
is_covered nodes None n = false
is_covered nodes (Some around) n = is_inside around (tree_node nodes n)

-- What is out behind a node and which node's inside is out then, by whether it is inside one whose inside was out.
abbrev pub GoesBy : Bool → List Node → Option NodeTest → Option ℕ → ℕ → ℕ → List ℕ → List ℕ → Type 0
GoesBy true nodes test around n next old new = (Some next ≡ around) × (new ≡ old)
GoesBy false nodes test around n next old new = (next ≡ n) × (new ≡ old ++ numbers_inside nodes test n)

abbrev pub GoesIn : List Node → Option NodeTest → Option ℕ → ℕ → ℕ → List ℕ → List ℕ → Type 0
GoesIn nodes test around n next old new = GoesBy (is_covered nodes around n) nodes test around n next old new

-- Both have the same numbers, in any order and any number of times.
abbrev pub HasSame : List ℕ → List ℕ → Type 0
HasSame xs ys = (k : ℕ) → is_among k xs ≡ is_among k ys
