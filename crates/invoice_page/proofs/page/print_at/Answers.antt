use Rattle.inv_base.proofs.PrintingLemmas.{Prints-append}
use Rattle.invoice_page.proofs.HeadLemmas.{Printed-from}
use Rattle.invoice_page.proofs.page.print_at.Goals as goal

pub returns : goal.returns
returns g c =
    Printed-from _ _ _ _ _ c.new.ensures
    (Prints-append _ _ _ _ _ _ _ _ c.put_head.ensures (Prints-append _ _ _ _ _ _ _ _ c.put_header.ensures
    (Prints-append _ _ _ _ _ _ _ _ c.put_sections.ensures c.put_footer.ensures)))
