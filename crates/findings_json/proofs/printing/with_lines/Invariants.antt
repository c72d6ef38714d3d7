use Rattle.std.proofs.Common.{◌≡◌, ◌++◌, List, take}
use Rattle.schematron_findings.specs.declared.finding.Line.{Line}
use Rattle.svrl_report.specs.Plain.{tally_of}
use Rattle.findings_json.proofs.printing.with_lines.Given as goal

-- the lines so far are counted
abbrev pub invariant-lines : goal.invariant-lines
invariant-lines l = (before : List Line) → l.fn.tally ≡ tally_of before → l.tally ≡ tally_of (before ++ take l.line-index l.lines)
