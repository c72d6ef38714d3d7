use Rattle.std.proofs.Common.{◌≡◌, chars, map, drop}
use Rattle.schematron_meaning.specs.Entries as spec
use Rattle.schematron_entries.specs.Seen.{seen_given}
use Rattle.schematron_entries.proofs.entry.value_of.Given as goal

abbrev pub invariant-given : goal.invariant-given
invariant-given l = spec.value_of (chars l.name) (map seen_given (drop l.one-index l.given)) ≡ spec.value_of (chars l.name) (map seen_given l.given)
