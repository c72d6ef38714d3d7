use Rattle.std.proofs.Common.{◌≡◌, take, drop}
use Rattle.schematron_meaning.specs.Bodies.{abstract_rules}
use Rattle.schematron_meaning.specs.Showing.{first_declared, first_in, declared_behind}
use Rattle.schematron_entries.specs.Keys as spec
use Rattle.schematron_entries.specs.Seen.{seen_entries}
use Rattle.schematron_entries.proofs.declared.first_declared.Given as goal

abbrev pub invariant-entries : goal.invariant-entries
invariant-entries l = record {
  names : spec.AreKeysOf spec.name_key l.names (seen_entries (take l.e-index l.entries));
  left : first_declared (seen_entries l.entries)
      ≡ first_in (declared_behind (seen_entries l.entries) (abstract_rules (seen_entries l.entries)) (seen_entries (take l.e-index l.entries))
      (seen_entries (drop l.e-index l.entries)));
}
