use Rattle.std.proofs.Common.{◌≡◌, take}
use Rattle.schematron_entries.specs.Seen.{seen_entries}
use Rattle.schematron_expansion.specs.Sizes.{file_with, assertions_inside_all}
use Rattle.schematron_expansion.proofs.sizes.sizes_inside.Given as goal

-- the entries so far
abbrev pub invariant-entries : goal.invariant-entries
invariant-entries l = l.found.items ≡ assertions_inside_all (file_with (seen_entries l.entries) l.graph) (seen_entries (take l.e-index l.entries))
