use Rattle.std.proofs.Common.{◌≡◌, ◌++◌, drop}
use Rattle.bind_seats.specs.declared.marks.Mark.{Mark}
use Rattle.bind_seats.specs.Marks.{has_mark}
use Rattle.bind_seats.specs.Occurrences.{outer_marks}
use Rattle.bind_seats.proofs.occurrences.outer_marks.Given as goal

abbrev pub invariant-picks : goal.invariant-picks
invariant-picks l =
    (m : Mark) → has_mark (l.marks.items ++ outer_marks l.rows (drop l.pick-index l.picks)) m ≡ has_mark (outer_marks l.rows l.picks) m
