use Rattle.std.specs.Prelude.{◌≡◌, take}
use Rattle.svrl_report.specs.Plain.{tally_of, all_lines}
use Rattle.findings_json.proofs.printing.tally_of.Given as goal

-- the files so far are counted
abbrev pub invariant-files : goal.invariant-files
invariant-files l = l.tally ≡ tally_of (all_lines (take l.file-index l.findings))
