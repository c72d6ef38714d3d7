use Rattle.std.proofs.Common.{arith}
use Rattle.inv_base.proofs.PrintingLemmas.{Prints-append, Prints-same}
use Rattle.validation_report.specs.Held.{spot_text}
use Rattle.validation_report.proofs.ListLemmas.{text-more, text-all}
use Rattle.validation_report.proofs.printing.print_spots.Goals as goal

pub spots-preserved : goal.spots-preserved
spots-preserved g c =
    Prints-same _ _ _ _ _ _
    (text-more (spot_text g.W.Word.word c.args.lines.now) c.args.spots.now c.spots.spot-index c.spot-item.result c.spots-test.true c.spot-item.is)
    (Prints-append _ _ _ _ _ _ _ _ c.spots.invariant c.print_spot.ensures)

pub returns : goal.returns
returns g c =
    Prints-same _ _ _ _ _ _
    (text-all (spot_text g.W.Word.word c.args.lines.now) c.args.spots.now c.spots.spot-index (omega (arith, c.spots-test.false)))
    c.spots.invariant
