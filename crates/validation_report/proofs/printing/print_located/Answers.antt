use Rattle.inv_base.proofs.PrintingLemmas.{Prints-append}
use Rattle.validation_report.proofs.printing.print_located.Goals as goal

pub returns : goal.returns
returns g c =
    Prints-append _ _ _ _ _ _ _ _ c.put.ensures
    (Prints-append _ _ _ _ _ _ _ _ c.put-2.ensures
    (Prints-append _ _ _ _ _ _ _ _ c.print_text.ensures
    (Prints-append _ _ _ _ _ _ _ _ c.print_place.ensures c.put-3.ensures)))
