use Rattle.std.proofs.Common.{refl}
use Rattle.inv_base.specs.Characters.{is_name_start, is_name_char}
use Rattle.ubl_binding.specs.Tables.{invoice_listing, invoice_rows}
use Rattle.ubl_binding.proofs.laws.invoice_is_writable.Goals as goal

pub returns : goal.returns
unfolding is_name_start is_name_char invoice_listing invoice_rows
returns c = refl
