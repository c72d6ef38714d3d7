use Rattle.std.proofs.Common.{◌≡◌, map, take}
use Rattle.std.specs.Prelude.{flat_map}
use Rattle.schematron_meaning.specs.Expansion.{instance_of}
use Rattle.schematron_entries.specs.Seen.{seen_entries}
use Rattle.schematron_expansion.specs.Seen.{seen_instance}
use Rattle.schematron_expansion.proofs.file.RuleFile.instances.Given as goal

-- the patterns so far
abbrev pub invariant-entries : goal.invariant-entries
invariant-entries l = map seen_instance l.found.items ≡ flat_map (instance_of l.self.entries) (seen_entries (take l.e-index l.e-items))
