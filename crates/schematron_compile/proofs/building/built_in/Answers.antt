use Rattle.std.proofs.Common.{refl}
use Rattle.schematron_meaning.specs.Written.{outer_scope}
use Rattle.schematron_entries.specs.Seen.{seen_entries}
use Rattle.schematron_compile.proofs.BuiltLemmas.{rules_built}
use Rattle.schematron_compile.proofs.building.built_in.Goals as goal

pub returns-in-Ok-phases_and_patterns : goal.returns-in-Ok-phases_and_patterns
returns-in-Ok-phases_and_patterns c =
    rules_built c.args.file.now _ (seen_entries c.entries.result.now) c.args.instances.now c.args.instances.now (outer_scope c.args.file.now.entries)
    c.entries.ensures c.in_ok-default_phase.ensures c.in-Ok.ensures.lets c.in-Ok-phases_and_patterns.ensures.phases refl
    c.requires.instances refl c.in-Ok-phases_and_patterns.ensures.patterns
