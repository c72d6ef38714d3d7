use Rattle.std.proofs.Common.{◌≡◌, take}
use Rattle.node_arena.specs.Moves.{tree_nodes}
use Rattle.xpath_meaning.specs.Items.{atomised}
use Rattle.xpath_operators.proofs.atomising.atoms.Given as goal

abbrev pub invariant-items : goal.invariant-items
invariant-items l = l.atoms.items ≡ atomised (tree_nodes l.doc) (take l.item-index l.items)
