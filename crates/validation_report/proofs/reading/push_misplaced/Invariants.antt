use Rattle.std.proofs.Common.{◌≡◌, ◌++◌, map, drop}
use Rattle.validation_report.specs.Told.{misplaced_line}
use Rattle.validation_report.proofs.reading.push_misplaced.Given as goal

-- the lines so far, and those of the elements that are left
abbrev pub invariant-misplaced : goal.invariant-misplaced
invariant-misplaced l = l.found ++ map (misplaced_line l.doc) (drop l.n-index l.misplaced) ≡ l.initial.found ++ map (misplaced_line l.doc) l.misplaced
