use Rattle.inv_base.proofs.PrintingLemmas.{Prints-append}
use Rattle.invoice_page.proofs.sections.put_sections.Goals as goal

pub returns : goal.returns
returns g c = Prints-append _ _ _ _ _ _ _ _ c.put_facts.ensures
    (Prints-append _ _ _ _ _ _ _ _ c.put_parties.ensures
    (Prints-append _ _ _ _ _ _ _ _ c.put_lines.ensures
    (Prints-append _ _ _ _ _ _ _ _ c.put_extras.ensures
    (Prints-append _ _ _ _ _ _ _ _ c.put_sums.ensures
    (Prints-append _ _ _ _ _ _ _ _ c.put_differing.ensures
    c.put_rest.ensures)))))
