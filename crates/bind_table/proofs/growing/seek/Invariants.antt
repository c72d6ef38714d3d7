use Rattle.std.proofs.Common.{◌-◌}
use Rattle.bind_table.specs.Growing.{AreLinesWithin, Passing}
use Rattle.bind_table.proofs.growing.seek.Given as goal

abbrev pub invariant-beside : goal.invariant-beside
invariant-beside l = AreLinesWithin l.lines l.at l.to × Passing l.lines l.from l.to l.step l.at

abbrev pub decreases-beside : goal.decreases-beside
decreases-beside l = l.to - l.at
