use Rattle.std.proofs.Common.{◌≡◌, ◌≤◌, length, drop, reverse}
use Rattle.xpath_values.proofs.sequences.turned_round.Given as goal

abbrev pub invariant-items : goal.invariant-items
invariant-items l = (l.left ≤ length l.x) × (l.turned.items ≡ reverse (drop l.left l.x))

abbrev pub decreases-items : goal.decreases-items
decreases-items l = l.left
