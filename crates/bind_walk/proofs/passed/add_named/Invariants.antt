use Rattle.std.proofs.Common.{◌-◌}
use Rattle.bind_walk.proofs.PassLemmas.{Adding}
use Rattle.bind_walk.proofs.passed.add_named.Given as goal

abbrev pub invariant-lines : goal.invariant-lines
invariant-lines l = Adding l.doc l.lines l.fn.from l.to l.fn.m l.initial.inside.items l.at l.inside.items

abbrev pub decreases-lines : goal.decreases-lines
decreases-lines l = l.to - l.at
