use Rattle.std.proofs.Common.{◌≡◌, [], drop, map}
use Rattle.invoice_data.specs.Told.{both}
use Rattle.invoice_data.specs.Members.{lack_fault}
use Rattle.invoice_data.proofs.lacks.put_each.Given as goal

-- what was put, and the faults of the rest, are the faults of all
abbrev pub invariant-violations : goal.invariant-violations
invariant-violations l =
    both l.telling (record { founds = []; faults = map (lack_fault l.room l.at) (drop l.violation-index l.violations) })
    ≡ both l.initial.telling (record { founds = []; faults = map (lack_fault l.room l.at) l.violations })
