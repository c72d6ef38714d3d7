use Rattle.std.proofs.Common.{◌≡◌, length}
use Rattle.bind_meaning.specs.Losses.{lesser}
use Rattle.bind_walk.specs.Losing.{least_before}
use Rattle.bind_walk.proofs.losses.least_before.Given as goal

abbrev pub invariant-spans : goal.invariant-spans
invariant-spans l = lesser l.least (least_before l.lines l.left) ≡ least_before l.lines l.fn.spans

abbrev pub decreases-spans : goal.decreases-spans
decreases-spans l = length l.left
