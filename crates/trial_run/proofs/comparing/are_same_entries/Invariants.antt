use Rattle.std.proofs.Common.{◌≡◌, drop}
use Rattle.trial_run.specs.Comparing.{same_entries}
use Rattle.trial_run.proofs.comparing.are_same_entries.Given as goal

-- the entries that are left decide
abbrev pub invariant-entries : goal.invariant-entries
invariant-entries l = same_entries (drop l.e-index l.some) l.rest ≡ same_entries l.some l.others
