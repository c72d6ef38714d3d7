use Rattle.std.proofs.Common.{arith}
use Rattle.line_places.proofs.StartLemmas.{rise_more}
use Rattle.line_places.proofs.starts.LineStarts.go_on.Goals as goal

pub invariant_of-self : goal.invariant_of-self
invariant_of-self c = rise_more 0 c.self.inside.length _ c.self.inside.starts.items c.self.invariant (omega (arith, c.in_ok-self-inside.ensures))
