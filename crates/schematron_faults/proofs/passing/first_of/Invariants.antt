use Rattle.std.proofs.Common.{◌≡◌, drop}
use Rattle.schematron_entries.specs.Seen.{seen_entries}
use Rattle.schematron_faults.specs.Passing.{first_passing}
use Rattle.schematron_faults.specs.Stopped.{seen_sums, passing_stopped}
use Rattle.schematron_faults.proofs.passing.first_of.Given as goal

-- the first from here on is the first of all
abbrev pub invariant-places : goal.invariant-places
invariant-places l = passing_stopped l.file (seen_sums l.before) (drop l.at (seen_entries l.entries)) ≡ first_passing l.file
