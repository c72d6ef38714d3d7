use Rattle.std.proofs.Common.{take}
use Rattle.std.specs.Prelude.{flat_map}
use Rattle.inv_base.specs.Printing.{Prints}
use Rattle.validation_report.specs.Held.{held_unread}
use Rattle.validation_report.proofs.printing.print_all_unread.Given as goal

-- the lines so far are printed
abbrev pub invariant-unread : goal.invariant-unread
invariant-unread g l =
    Prints (flat_map held_unread (take l.one-index l.unread)) l.initial.printer.failed l.printer.failed (g.K.Sink.view l.initial.out)
    (g.K.Sink.view l.out)
