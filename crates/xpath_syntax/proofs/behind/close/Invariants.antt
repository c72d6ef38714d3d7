use Rattle.std.proofs.Common.{◌≡◌, length}
use Rattle.xpath_grammar.specs.Machine as m
use Rattle.xpath_syntax.specs.Values.{values}
use Rattle.xpath_syntax.proofs.behind.close.Given as goal

abbrev pub invariant-frames : goal.invariant-frames
invariant-frames l = m.close values l.rank l.value l.stack ≡ m.close values l.rank l.initial.value l.initial.stack

abbrev pub decreases-frames : goal.decreases-frames
decreases-frames l = length l.stack
