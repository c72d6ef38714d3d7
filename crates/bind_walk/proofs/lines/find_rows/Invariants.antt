use Rattle.std.proofs.Common.{◌≡◌, take}
use Rattle.std.specs.List.{flat_map}
use Rattle.bind_walk.specs.Lines.{found_at}
use Rattle.bind_walk.proofs.lines.find_rows.Given as goal

abbrev pub invariant-numbers : goal.invariant-numbers
invariant-numbers l = l.found ≡ flat_map (found_at l.doc l.rows) (take l.number-index l.numbers)
