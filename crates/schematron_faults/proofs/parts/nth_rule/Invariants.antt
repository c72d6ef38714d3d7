use Rattle.std.proofs.Common.{◌≡◌, drop}
use Rattle.std.specs.Prelude.{slice_get}
use Rattle.schematron_meaning.specs.Bodies.{abstract_rules}
use Rattle.schematron_entries.specs.Seen.{seen_entries}
use Rattle.schematron_faults.proofs.parts.nth_rule.Given as goal

abbrev pub invariant-entries : goal.invariant-entries
invariant-entries l = slice_get (abstract_rules (seen_entries l.entries)) l.rule ≡ slice_get (abstract_rules (seen_entries (drop l.e-index l.entries))) l.left
