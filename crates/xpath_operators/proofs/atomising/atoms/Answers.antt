use Rattle.std.proofs.Common.{length, take}
use Rattle.node_arena.specs.Moves.{tree_nodes}
use Rattle.xpath_operators.proofs.WithinLemmas.{item_within, within_along}
use Rattle.xpath_operators.proofs.atomising.atoms.Goals as goal

pub atom-requires : goal.atom-requires
atom-requires c = item_within _ c.args.items.now c.items.item-index c.item-item.result c.requires c.items-test.true c.item-item.is

pub returns-clause-within : goal.returns-clause-within
returns-clause-within c = within_along (length c.args.doc.now.nodes) (tree_nodes c.args.doc.now) c.items.atoms.items
    (take c.items.item-index c.args.items.now) c.items.invariant
