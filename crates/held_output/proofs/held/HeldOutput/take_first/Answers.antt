use Rattle.std.proofs.Common.{refl}
use Rattle.inv_base.proofs.BufferingLemmas.{passed_on, none_left}
use Rattle.held_output.proofs.held.HeldOutput.take_first.Goals as goal

pub returns : goal.returns
returns g c = passed_on _ _ _ _ _ _ (none_left _ _ c.requires) refl refl c.write.ensures
