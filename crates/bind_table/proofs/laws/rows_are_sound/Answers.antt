use Rattle.bind_table.proofs.SoundLemmas.{sound-rows}
use Rattle.bind_table.proofs.laws.rows_are_sound.Goals as goal

pub returns : goal.returns
returns c = sound-rows
