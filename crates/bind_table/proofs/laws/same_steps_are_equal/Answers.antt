use Rattle.bind_table.proofs.SameLemmas.{step-sound}
use Rattle.bind_table.proofs.laws.same_steps_are_equal.Goals as goal

pub returns : goal.returns
returns c = step-sound
