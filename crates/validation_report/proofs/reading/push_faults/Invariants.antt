use Rattle.std.proofs.Common.{◌≡◌, ◌++◌, map, drop}
use Rattle.validation_report.specs.Told.{fault_line}
use Rattle.validation_report.proofs.reading.push_faults.Given as goal

-- the lines so far, and those of the faults that are left
abbrev pub invariant-faults : goal.invariant-faults
invariant-faults l = l.found ++ map (fault_line l.doc) (drop l.fault-index l.faults) ≡ l.initial.found ++ map (fault_line l.doc) l.faults
