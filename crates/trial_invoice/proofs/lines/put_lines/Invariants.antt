use Rattle.std.proofs.Common.{◌≡◌, ◌++◌}
use Rattle.trial_invoice.specs.Generated.{lines_of}
use Rattle.trial_invoice.proofs.lines.put_lines.Given as goal

-- the lines so far were added
abbrev pub invariant-lines : goal.invariant-lines
invariant-lines l = l.entries.items ≡ l.initial.entries.items ++ lines_of l.behind
