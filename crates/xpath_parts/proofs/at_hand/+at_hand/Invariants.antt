use Rattle.xpath_parts.specs.Depths.{depth}
use Rattle.xpath_parts.proofs.at_hand.+at_hand.Given as goal

abbrev pub decreases-at_hand : goal.decreases-at_hand
decreases-at_hand l = depth l.work.now
