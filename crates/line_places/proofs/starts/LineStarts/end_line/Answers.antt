use Rattle.std.proofs.Common.{arith}
use Rattle.line_places.proofs.StartLemmas.{rise_push}
use Rattle.line_places.proofs.starts.LineStarts.end_line.Goals as goal

pub invariant_of-self-2 : goal.invariant_of-self-2
invariant_of-self-2 c =
    rw c.in_ok-push.ensures.items (rise_push 0 c.self.inside.length c.in_ok-length.length c.self.inside.starts.items c.self.invariant
    (omega (arith, c.in_ok-length.ensures, c.requires)))
