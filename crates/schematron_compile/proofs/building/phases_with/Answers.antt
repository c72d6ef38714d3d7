use Rattle.schematron_entries.specs.Seen.{seen_entries}
use Rattle.schematron_rules.specs.Seen.{seen_phases}
use Rattle.schematron_compile.specs.Lent.{lent_entries}
use Rattle.schematron_compile.proofs.BuiltLemmas.{outer_is, phases_are}
use Rattle.schematron_compile.proofs.building.phases_with.Goals as goal

pub returns-in-Ok-clause-phases : goal.returns-in-Ok-clause-phases
returns-in-Ok-clause-phases c = phases_are c.args.file.now.entries (seen_entries c.entries.result.now) (lent_entries c.in_ok-found.found.items)
    (seen_phases c.in_ok-phases.phases)
    c.in_ok-found.ensures c.entries.ensures c.in_ok-phases.ensures.phases

pub returns-in-Ok-clause-scope : goal.returns-in-Ok-clause-scope
returns-in-Ok-clause-scope c = outer_is c.args.file.now.entries c.args.scope.now c.phases_of.new.scope c.declare_lets_of_phases.new.scope
    c.requires.scope c.in_ok-phases.ensures.scope c.in-Ok.ensures
