use Rattle.std.proofs.Common.{take}
use Rattle.schematron_entries.specs.Keys as spec
use Rattle.schematron_entries.specs.Seen.{seen_entries}
use Rattle.schematron_entries.proofs.naming.ids_of.Given as goal

abbrev pub invariant-entries : goal.invariant-entries
invariant-entries l = spec.AreKeysOf spec.id_key l.ids (seen_entries (take l.e-index l.entries))
