use Rattle.std.proofs.Common.{◌≡◌, take}
use Rattle.schematron_entries.specs.Seen.{seen_entries}
use Rattle.schematron_expansion.specs.Counted.{numbers}
use Rattle.schematron_expansion.proofs.counting.nodes.Given as goal

-- the entries so far
abbrev pub invariant-entries : goal.invariant-entries
invariant-entries l = l.found.items ≡ numbers (seen_entries (take l.e-index l.entries))
