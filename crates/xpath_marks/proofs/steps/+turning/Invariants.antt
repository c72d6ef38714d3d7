use Rattle.std.proofs.Common.{◌+◌, ◌*◌}
use Rattle.xpath_parts.specs.Depths.{depth, deepest}
use Rattle.xpath_marks.proofs.steps.+turning.Given as goal

abbrev pub decreases-turn : goal.decreases-turn
decreases-turn g l = 3 * depth l.work.now

abbrev pub decreases-filtered : goal.decreases-filtered
decreases-filtered g l = 3 * depth l.first.now + 1

abbrev pub decreases-turn_by : goal.decreases-turn_by
decreases-turn_by g l = 3 * deepest l.parts.now + 2
