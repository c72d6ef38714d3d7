use Rattle.std.proofs.Common.{◌≡◌, take}
use Rattle.schematron_meaning.specs.Lookup.{is_phase, of_role}
use Rattle.schematron_entries.specs.Seen.{seen_entries}
use Rattle.schematron_compile.specs.Lent.{lent_entries}
use Rattle.schematron_compile.proofs.phases.phases_among.Given as goal

-- the phases so far
abbrev pub invariant-entries : goal.invariant-entries
invariant-entries l = lent_entries l.found.items ≡ of_role is_phase (seen_entries (take l.e-index l.entries))
