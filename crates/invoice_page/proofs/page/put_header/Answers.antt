use Rattle.inv_base.proofs.PrintingLemmas.{Prints-append}
use Rattle.invoice_page.proofs.page.put_header.Goals as goal

pub returns : goal.returns
returns g c = Prints-append _ _ _ _ _ _ _ _ c.put.ensures
    (Prints-append _ _ _ _ _ _ _ _ c.put_kind.ensures
    (Prints-append _ _ _ _ _ _ _ _ c.put-2.ensures
    (Prints-append _ _ _ _ _ _ _ _ c.put_value.ensures
    (Prints-append _ _ _ _ _ _ _ _ c.put-3.ensures
    c.put_amount_due.ensures))))
