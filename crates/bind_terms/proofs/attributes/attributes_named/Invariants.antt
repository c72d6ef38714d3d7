use Rattle.std.proofs.Common.{◌<◌, ◌-◌, length, All, Option, Some, None, ℕ, chars}
use Rattle.node_arena.specs.Moves.{tree_nodes}
use Rattle.bind_meaning.specs.Elements.{attributes_named}
use Rattle.bind_meaning.specs.Names.{has_plain_name}
use Rattle.bind_terms.proofs.NodeLists.{Next}
use Rattle.bind_terms.proofs.attributes.attributes_named.Given as goal

abbrev left : ℕ → Option ℕ → ℕ
left count None = 0
left count (Some m) = count - m

abbrev pub invariant-attributes : goal.invariant-attributes
invariant-attributes g l = Next (tree_nodes l.doc) l.fn.n (has_plain_name (chars l.local)) l.found.items
    (attributes_named (tree_nodes l.doc) (chars l.local) l.fn.n) l.at
    × All (λ m. m < length l.doc.nodes) l.found.items

abbrev pub decreases-attributes : goal.decreases-attributes
decreases-attributes g l = left (length l.doc.nodes) l.at
