use Rattle.ubl_binding.proofs.Parts.{credit_note_sound}
use Rattle.ubl_binding.proofs.laws.credit_note_is_well_formed.Goals as goal

pub returns : goal.returns
returns c = credit_note_sound
