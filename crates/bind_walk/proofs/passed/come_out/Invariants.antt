use Rattle.std.proofs.Common.{length}
use Rattle.bind_walk.proofs.PassLemmas.{Coming}
use Rattle.bind_walk.proofs.passed.come_out.Given as goal

abbrev pub invariant-way : goal.invariant-way
invariant-way l = Coming l.doc l.lines l.p l.initial.reached.spans.items l.initial.reached.way.items l.reached.spans.items l.reached.way.items

abbrev pub decreases-way : goal.decreases-way
decreases-way l = length l.reached.way.items
