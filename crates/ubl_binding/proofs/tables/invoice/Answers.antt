use Rattle.std.specs.Str.{chars}
use Rattle.ubl_binding.specs.Tables.{invoice_listing, invoice_rows}
use Rattle.ubl_binding.proofs.tables.invoice.Goals as goal

pub returns : goal.returns
unfolding chars invoice_listing invoice_rows
returns c = c.listed.ensures
