use Rattle.std.proofs.Common.{take}
use Rattle.schematron_entries.specs.Seen.{seen_entries}
use Rattle.schematron_faults.specs.Staying.{AreTexts}
use Rattle.schematron_faults.proofs.texts.texts_with.Given as goal

-- what is known of those so far
abbrev pub invariant-entries : goal.invariant-entries
invariant-entries l = AreTexts l.blanks (seen_entries (take l.e-index l.entries)) l.texts
