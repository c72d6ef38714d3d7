use Rattle.std.proofs.Common.{◌≡◌, drop}
use Rattle.schematron_meaning.specs.Lookup.{is_let, inside}
use Rattle.schematron_meaning.specs.Written as spec
use Rattle.schematron_entries.specs.Seen.{seen_entries}
use Rattle.schematron_rules.proofs.scopes.declare_lets.Given as goal

abbrev pub invariant-entries : goal.invariant-entries
invariant-entries l = spec.with_lets l.params l.scope (inside is_let (seen_entries (drop l.e-index l.entries)) l.parent)
    ≡ spec.with_lets l.params l.initial.scope (inside is_let (seen_entries l.entries) l.parent)
