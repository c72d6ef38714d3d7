use Rattle.std.proofs.Common.{◌≡◌, ◌++◌, length}
use Rattle.bind_table.specs.Lines.{flat, plan_of}
use Rattle.bind_walk.specs.Lines.{found_lines}
use Rattle.bind_walk.proofs.lines.find_lines.Given as goal

abbrev pub invariant-lines : goal.invariant-lines
invariant-lines l = (l.found.items ++ found_lines l.doc l.table l.left) ≡ found_lines l.doc l.table (flat (plan_of l.table))

abbrev pub decreases-lines : goal.decreases-lines
decreases-lines l = length l.left
