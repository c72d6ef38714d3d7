use Rattle.std.proofs.Common.{◌≡◌, [], drop}
use Rattle.schematron_meaning.specs.Written.{with_lets, phase_lets}
use Rattle.schematron_entries.specs.Seen.{seen_entries}
use Rattle.schematron_faults.specs.Phases.{lets_of_phases}
use Rattle.schematron_faults.proofs.phases.declare_phases.Given as goal

abbrev pub invariant-entries : goal.invariant-entries
invariant-entries l = with_lets [] l.scope (lets_of_phases l.file.entries (seen_entries (drop l.e-index l.entries))) ≡ with_lets [] l.initial.scope
    (phase_lets l.file.entries)
