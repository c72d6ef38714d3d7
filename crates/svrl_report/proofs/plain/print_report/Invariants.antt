use Rattle.std.proofs.Common.{◌≡◌, take}
use Rattle.inv_base.specs.Printing.{Printed}
use Rattle.svrl_report.specs.Plain.{lines_text, all_lines, tally_of}
use Rattle.svrl_report.proofs.plain.print_report.Given as goal

-- the findings of the files so far are printed, and counted
abbrev pub invariant-files : goal.invariant-files
invariant-files g l =
    (Printed l.printer.failed (lines_text (all_lines (take l.file-index l.findings))) (g.K.Sink.view l.initial.out) (g.K.Sink.view l.out))
    × (l.tally ≡ tally_of (all_lines (take l.file-index l.findings)))
