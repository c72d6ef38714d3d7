use Rattle.std.proofs.Common.{◌≡◌, take}
use Rattle.schematron_entries.specs.Seen.{seen_entries}
use Rattle.schematron_expansion.specs.Counted.{counted_among}
use Rattle.schematron_expansion.proofs.counting.counted_by.Given as goal

-- the entries so far
abbrev pub invariant-entries : goal.invariant-entries
invariant-entries l = l.found.items ≡ counted_among (seen_entries l.entries) (seen_entries (take l.e-index l.entries))
