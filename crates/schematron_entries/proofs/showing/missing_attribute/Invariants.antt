use Rattle.std.proofs.Common.{◌≡◌, drop}
use Rattle.std.specs.List.{flat_map}
use Rattle.std.specs.Prelude.{is_none, Some}
use Rattle.schematron_meaning.specs.declared.fault.RuleKind.TheVariants.{MissingAttribute}
use Rattle.schematron_meaning.specs.Lookup.{attribute}
use Rattle.schematron_meaning.specs.Showing as spec
use Rattle.schematron_entries.specs.Seen.{seen_entry}
use Rattle.schematron_entries.proofs.showing.missing_attribute.Given as goal

abbrev pub invariant-needed : goal.invariant-needed
invariant-needed l = spec.first_in
    (flat_map (λ name. spec.when (is_none (attribute name (seen_entry l.e))) (spec.fault MissingAttribute (Some name) (seen_entry l.e)))
    (drop l.name-index l.needed))
    ≡ spec.first_in (spec.missing_attribute (seen_entry l.e))
