use Rattle.std.proofs.Common.{take}
use Rattle.std.specs.Prelude.{flat_map}
use Rattle.inv_base.specs.Printing.{Printed}
use Rattle.node_arena.specs.Moves.{tree_nodes}
use Rattle.item_listing.specs.Listing.{item_line}
use Rattle.item_listing.proofs.items.write_all_items.Given as goal

-- the lines of the items so far
abbrev pub invariant-items : goal.invariant-items
invariant-items g l =
    Printed l.printer.failed (flat_map (item_line (tree_nodes l.input.doc.now)) (take l.item-index l.items)) (g.K.Sink.view l.initial.out) (g.K.Sink.view l.out)
