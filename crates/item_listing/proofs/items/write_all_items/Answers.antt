use Rattle.std.proofs.Common.{arith}
use Rattle.node_arena.specs.Moves.{tree_nodes}
use Rattle.item_listing.specs.Listing.{item_line}
use Rattle.item_listing.proofs.ItemLemmas.{within_at, lines_parted, stopped_ok, stopped_err}
use Rattle.item_listing.proofs.items.write_all_items.Goals as goal

pub print_item-requires-clause-within : goal.print_item-requires-clause-within
print_item-requires-clause-within g c = within_at _ c.args.items.now c.items.item-index c.item-item.result c.requires.within (omega arith) c.item-item.is

pub returns-in-Err-clause-ok : goal.returns-in-Err-clause-ok
returns-in-Err-clause-ok g c = stopped_ok _ _ _ _ _ _ _ _ _ _ c.stopped.ensures c.in-Err.ensures.0 c.items.invariant c.in-Err.ensures.1
    (lines_parted (item_line (tree_nodes c.args.input.now.doc.now)) c.items.item-index c.args.items.now)

pub returns-in-Err-clause-err : goal.returns-in-Err-clause-err
returns-in-Err-clause-err g c = stopped_err _ _ _ _ _ _ _ _ _ _ c.stopped.ensures c.in-Err.ensures.0 c.items.invariant c.in-Err.ensures.1
    (lines_parted (item_line (tree_nodes c.args.input.now.doc.now)) c.items.item-index c.args.items.now)
