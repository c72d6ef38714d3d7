use Rattle.std.proofs.Common.{◌-◌}
use Rattle.bind_walk.proofs.PassLemmas.{Naming}
use Rattle.bind_walk.proofs.passed.add_part.Given as goal

abbrev pub invariant-spans : goal.invariant-spans
invariant-spans l = Naming l.doc l.lines l.around l.m l.initial.spans.items l.at l.spans.items

abbrev pub decreases-spans : goal.decreases-spans
decreases-spans l = l.around.to - l.at
