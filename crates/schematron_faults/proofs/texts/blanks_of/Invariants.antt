use Rattle.std.proofs.Common.{◌≡◌, drop}
use Rattle.schematron_entries.specs.Seen.{seen_entries}
use Rattle.schematron_faults.specs.Staying.{blanks_with, blanks_of}
use Rattle.schematron_faults.proofs.texts.blanks_of.Given as goal

-- those so far, and the ones to come behind them, are all
abbrev pub invariant-entries : goal.invariant-entries
invariant-entries l = blanks_with l.blanks (seen_entries (drop l.e-index l.entries)) ≡ blanks_of (seen_entries l.entries)
