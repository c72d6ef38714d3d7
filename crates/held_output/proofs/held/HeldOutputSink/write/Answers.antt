use Rattle.held_output.proofs.HoldingLemmas.{accepts_behind}
use Rattle.held_output.proofs.held.HeldOutputSink.write.Goals as goal

pub returns-in-Ok : goal.returns-in-Ok
returns-in-Ok g c = accepts_behind _ _ _ _ _ c.in-Ok.ensures.told c.in-Ok.ensures.faults c.take_first.ensures
