use Rattle.cii_binding.proofs.Parts.{cii_sound}
use Rattle.cii_binding.proofs.laws.cii_is_well_formed.Goals as goal

pub returns : goal.returns
returns c = cii_sound
