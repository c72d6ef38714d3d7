use Rattle.inv_base.proofs.PrintingLemmas.{Prints-append}
use Rattle.invoice_page.proofs.sections.put_sums.Goals as goal

pub returns : goal.returns
returns g c = Prints-append _ _ _ _ _ _ _ _ c.put.ensures
    (Prints-append _ _ _ _ _ _ _ _ c.put_vat.ensures
    (Prints-append _ _ _ _ _ _ _ _ c.put_totals.ensures
    c.put-2.ensures))
