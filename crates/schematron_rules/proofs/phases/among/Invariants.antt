use Rattle.std.proofs.Common.{◌≡◌, chars, drop}
use Rattle.schematron_meaning.specs.Phases as phases
use Rattle.schematron_rules.specs.Seen.{seen_phases}
use Rattle.schematron_rules.proofs.phases.among.Given as goal

abbrev pub invariant-phases : goal.invariant-phases
invariant-phases l = phases.phase_from (chars l.name) l.n (seen_phases (drop l.n l.all)) ≡ phases.phase_from (chars l.name) 0 (seen_phases l.all)
