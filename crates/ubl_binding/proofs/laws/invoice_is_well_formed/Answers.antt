use Rattle.ubl_binding.proofs.Parts.{invoice_sound}
use Rattle.ubl_binding.proofs.laws.invoice_is_well_formed.Goals as goal

pub returns : goal.returns
returns c = invoice_sound
