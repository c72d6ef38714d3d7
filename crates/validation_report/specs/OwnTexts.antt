-- The texts right inside an element, gone over from a child to the next.
use Rattle.std.specs.Prelude.{ℕ, ◌-◌, List, [], length, filter, flat_map, drop, Option, Some, None}
use Rattle.inv_base.specs.Tree.{Node, is_text}
use Rattle.node_arena.specs.Document.{Document}
use Rattle.node_arena.specs.Moves.{is_child}
use Rattle.bind_meaning.specs.Elements.{both}

-- the texts among the children of a node, joined
abbrev pub inner_texts : ℕ → List Node → List ℕ
inner_texts n nodes = flat_map (λ (inner : Node). inner.text) (filter (both is_text (is_child n)) nodes)

-- the same from a node on; nothing where there is none
abbrev pub texts_from : ℕ → List Node → Option ℕ → List ℕ
texts_from n nodes None = []
texts_from n nodes (Some m) = inner_texts n (drop m nodes)

-- how many nodes there are from it on
abbrev pub still : Document → Option ℕ → ℕ
still d None = 0
still d (Some m) = length d.nodes - m
