use Rattle.std.proofs.Common.{◌≡◌, take}
use Rattle.schematron_entries.specs.Seen.{seen_entries}
use Rattle.schematron_expansion.specs.Bodied as spec
use Rattle.schematron_expansion.proofs.bodies.parents.Given as goal

-- the entries so far
abbrev pub invariant-entries : goal.invariant-entries
invariant-entries l = l.found.items ≡ spec.parents (seen_entries (take l.e-index l.entries))
