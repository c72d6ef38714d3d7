use Rattle.std.specs.Prelude.{◌≡◌, take}
use Rattle.svrl_report.specs.Plain.{tally_of}
use Rattle.svrl_report.proofs.tally.Tally.of.Given as goal

-- the lines so far are counted
abbrev pub invariant-lines : goal.invariant-lines
invariant-lines l = l.tally ≡ tally_of (take l.line-index l.lines)
