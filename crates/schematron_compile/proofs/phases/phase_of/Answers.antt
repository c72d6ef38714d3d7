use Rattle.std.proofs.Common.{◌∙◌, ap}
use Rattle.schematron_meaning.specs.Lookup.{is_let, is_active, inside}
use Rattle.schematron_entries.specs.Seen.{seen_entry}
use Rattle.schematron_compile.proofs.BuiltLemmas.{phase_is}
use Rattle.schematron_compile.proofs.phases.phase_of.Goals as goal

pub returns-in-Ok-clause-phase : goal.returns-in-Ok-clause-phase
returns-in-Ok-clause-phase c =
    phase_is c.args.file.now.entries (seen_entry c.args.e.now) _ c.args.scope.now (inside is_let c.args.file.now.entries c.number.result)
    (inside is_active c.args.file.now.entries c.number.result)
    c.requires.scope (ap (inside is_let c.args.file.now.entries) c.number.ensures) (ap (inside is_active c.args.file.now.entries) c.number.ensures)
    (c.in_ok-id.ensures ∙ c.attribute.ensures) c.in-Ok.ensures.lets c.in-Ok.ensures.patterns
