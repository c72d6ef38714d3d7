use Rattle.std.proofs.Common.{take}
use Rattle.std.specs.Prelude.{flat_map}
use Rattle.inv_base.specs.Printing.{Prints}
use Rattle.validation_report.specs.Held.{located_text}
use Rattle.validation_report.proofs.printing.print_all_located.Given as goal

-- the lines so far are printed
abbrev pub invariant-located : goal.invariant-located
invariant-located g l =
    Prints (flat_map (located_text l.word) (take l.one-index l.located)) l.initial.printer.failed l.printer.failed (g.K.Sink.view l.initial.out)
    (g.K.Sink.view l.out)
