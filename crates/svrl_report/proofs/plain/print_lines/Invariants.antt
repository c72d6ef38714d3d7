use Rattle.std.proofs.Common.{◌≡◌, ◌++◌, List, take}
use Rattle.inv_base.specs.Printing.{Prints}
use Rattle.schematron_findings.specs.declared.finding.Line.{Line}
use Rattle.svrl_report.specs.Plain.{lines_text, tally_of}
use Rattle.svrl_report.proofs.plain.print_lines.Given as goal

-- the lines so far are printed, and counted
abbrev pub invariant-lines : goal.invariant-lines
invariant-lines g l =
    (Prints (lines_text (take l.line-index l.lines)) l.initial.printer.failed l.printer.failed (g.K.Sink.view l.initial.out) (g.K.Sink.view l.out))
    × ((before : List Line) → l.fn.tally ≡ tally_of before → l.tally ≡ tally_of (before ++ take l.line-index l.lines))
