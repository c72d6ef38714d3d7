use Rattle.inv_base.proofs.PrintingLemmas.{Prints-append}
use Rattle.svrl_report.proofs.plain.print_counts.Goals as goal

pub returns : goal.returns
returns g c =
    Prints-append _ _ _ _ _ _ _ _ c.put.ensures
    (Prints-append _ _ _ _ _ _ _ _ c.print_number.ensures
    (Prints-append _ _ _ _ _ _ _ _ c.put-2.ensures
    (Prints-append _ _ _ _ _ _ _ _ c.print_number-2.ensures
    (Prints-append _ _ _ _ _ _ _ _ c.put-3.ensures
    (Prints-append _ _ _ _ _ _ _ _ c.print_number-3.ensures
    (Prints-append _ _ _ _ _ _ _ _ c.put-4.ensures
    (Prints-append _ _ _ _ _ _ _ _ c.print_number-4.ensures c.put-5.ensures)))))))
