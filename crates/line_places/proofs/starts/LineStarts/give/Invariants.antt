use Rattle.std.proofs.Common.{length}
use Rattle.line_places.proofs.LineLemmas.{Giving}
use Rattle.line_places.proofs.starts.LineStarts.give.Given as goal

abbrev pub invariant-lines : goal.invariant-lines
invariant-lines l = Giving l.piece l.rest l.initial.self l.self

abbrev pub decreases-lines : goal.decreases-lines
decreases-lines l = length l.rest
