use Rattle.std.proofs.Common.{◌≡◌, drop}
use Rattle.std.specs.Prelude.{fold}
use Rattle.schematron_meaning.specs.Entries.{Entry}
use Rattle.schematron_meaning.specs.Lookup.{is_namespace, of_role}
use Rattle.schematron_meaning.specs.Written as spec
use Rattle.schematron_entries.specs.Seen.{seen_entries}
use Rattle.schematron_rules.proofs.scopes.prefixes.Given as goal

abbrev pub invariant-entries : goal.invariant-entries
invariant-entries l = fold (λ scope (e : Entry). spec.prefix_of_entry e scope) l.scope (of_role is_namespace (seen_entries (drop l.e-index l.entries))) ≡
    spec.prefixes (seen_entries l.entries)
