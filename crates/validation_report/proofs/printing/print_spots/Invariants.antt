use Rattle.std.proofs.Common.{take}
use Rattle.std.specs.Prelude.{flat_map}
use Rattle.inv_base.specs.Printing.{Prints}
use Rattle.validation_report.specs.Held.{spot_text}
use Rattle.validation_report.proofs.printing.print_spots.Given as goal

-- the lines so far are printed
abbrev pub invariant-spots : goal.invariant-spots
invariant-spots g l =
    Prints (flat_map (spot_text g.W.Word.word l.lines) (take l.spot-index l.spots))
    l.initial.printer.failed l.printer.failed (g.K.Sink.view l.initial.out) (g.K.Sink.view l.out)
