use Rattle.std.proofs.Common.{subst, arith}
use Rattle.inv_base.specs.Printing.{Printed}
use Rattle.svrl_report.proofs.PlainLemmas.{report_whole}
use Rattle.svrl_report.proofs.plain.print_report.Goals as goal

pub returns : goal.returns
returns g c =
    subst (λ text. Printed c.print_counts.new.printer.failed text (g.K.Sink.view c.args.out.now) (g.K.Sink.view c.print_counts.new.out))
    (report_whole c.args.findings.now c.files.file-index c.files.tally (omega (arith, c.files-test.false)) c.files.invariant.1)
    (c.print_counts.ensures _ _ c.files.invariant.0)
