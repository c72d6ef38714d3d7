use Rattle.code_lists.specs.CodeFiles.{built_in_lists}
use Rattle.carrying_laws.proofs.Witness.{small_invoice, small-invoice, small-valid, small-ubl, small-cii}
use Rattle.carrying_laws.proofs.laws.some_invoice_is_carried.Goals as goal

pub returns : goal.returns
returns c = (small_invoice, (built_in_lists, (small-invoice, (small-valid, (small-ubl, small-cii)))))
