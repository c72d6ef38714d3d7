use Rattle.std.proofs.Common.{◌≡◌, ◌-◌, drop, vec_len}
use Rattle.inv_base.specs.Buffering.{with_held}
use Rattle.held_output.proofs.held.HeldOutput.hand_on.Given as goal

-- what was handed on and what is held back are what was taken
abbrev pub invariant-pieces : goal.invariant-pieces
invariant-pieces g l =
    with_held (g.K.Sink.view l.self.sink.now) (drop l.self.sent l.self.held.items) ≡ with_held (g.K.Sink.view l.initial.self.sink.now)
    (drop l.initial.self.sent l.initial.self.held.items)

abbrev pub decreases-pieces : goal.decreases-pieces
decreases-pieces g l = vec_len l.self.held - l.self.sent
