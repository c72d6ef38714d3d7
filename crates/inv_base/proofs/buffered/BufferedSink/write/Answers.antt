use Rattle.inv_base.proofs.BufferingLemmas.{passed_on, none_left}
use Rattle.inv_base.proofs.buffered.BufferedSink.write.Goals as goal

pub returns-in-Ok : goal.returns-in-Ok
returns-in-Ok g c = passed_on _ _ _ _ _ _ (none_left _ _ c.in-Ok.ensures.empty) c.in-Ok.ensures.told c.in-Ok.ensures.faults c.write.ensures
