use Rattle.xpath_parts.specs.Depths.{depth}
use Rattle.xpath_parts.proofs.at_hand.+unkept.Given as goal

abbrev pub decreases-unkept : goal.decreases-unkept
decreases-unkept l = depth l.work.now
