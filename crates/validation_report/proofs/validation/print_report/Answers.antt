use Rattle.std.proofs.Common.{[]}
use Rattle.inv_base.proofs.WritingLemmas.{WritesAll-nil}
use Rattle.inv_base.proofs.PrintingLemmas.{Prints-same}
use Rattle.validation_report.specs.Held.{held_plain}
use Rattle.validation_report.proofs.validation.print_report.Goals as goal

pub returns : goal.returns
returns g c =
    let all = Prints-same _ _ _ _ _ _ (λ i. held_plain (c.reading_in.ensures i) (c.rules_in.ensures i) c.args.spots.now) c.print_held.ensures in
    all [] (g.K.Sink.view c.args.out.now) (rw c.new-printer.ensures (WritesAll-nil _))
