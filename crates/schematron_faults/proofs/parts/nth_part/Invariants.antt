use Rattle.std.proofs.Common.{◌≡◌, drop}
use Rattle.std.specs.Prelude.{slice_get, filter}
use Rattle.schematron_entries.specs.Seen.{seen_entries}
use Rattle.schematron_faults.specs.Parts.{is_part}
use Rattle.schematron_faults.proofs.parts.nth_part.Given as goal

abbrev pub invariant-entries : goal.invariant-entries
invariant-entries l = slice_get (filter (is_part l.file.rules l.number) (seen_entries l.entries)) l.part
    ≡ slice_get (filter (is_part l.file.rules l.number) (seen_entries (drop l.e-index l.entries))) l.left
