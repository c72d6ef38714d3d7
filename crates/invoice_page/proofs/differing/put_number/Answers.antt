use Rattle.std.proofs.Common.{sym, ap}
use Rattle.inv_base.proofs.PrintingLemmas.{Prints-same}
use Rattle.inv_totals.specs.Lines.{computed_text}
use Rattle.invoice_page.proofs.differing.put_number.Goals as goal

pub returns-in-Err : goal.returns-in-Err
returns-in-Err g c = Prints-same _ _ _ _ _ _ (sym (ap computed_text c.in-Err.is)) c.put.ensures
