use Rattle.std.proofs.Common.{take}
use Rattle.std.specs.Prelude.{flat_map}
use Rattle.inv_base.specs.Printing.{Printed}
use Rattle.inv_listing.specs.Composing.{BeginsWithContext}
use Rattle.inv_listing.specs.Listing.{entry_line}
use Rattle.inv_listing.proofs.printing.print_listing.Given as goal

-- the lines of the entries so far, and at the front the text of a context
abbrev pub invariant-entries : goal.invariant-entries
invariant-entries g l =
    Printed l.printer.failed (flat_map entry_line (take l.e-index l.e-items)) (g.K.Sink.view l.initial.out) (g.K.Sink.view l.out) × BeginsWithContext l.front
