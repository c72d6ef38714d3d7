use Rattle.inv_base.proofs.PrintingLemmas.{Prints-append}
use Rattle.invoice_page.proofs.differing.put_difference_row.Goals as goal

pub returns : goal.returns
returns g c = Prints-append _ _ _ _ _ _ _ _ c.put.ensures
    (Prints-append _ _ _ _ _ _ _ _ c.put_label.ensures
    (Prints-append _ _ _ _ _ _ _ _ c.put-2.ensures
    (Prints-append _ _ _ _ _ _ _ _ c.put_computed.ensures
    c.put-3.ensures)))
