use Rattle.inv_base.proofs.PrintingLemmas.{Prints-append}
use Rattle.trial_run.proofs.printing.print_documents.Goals as goal

pub returns : goal.returns
returns g c =
    Prints-append _ _ _ _ _ _ _ _ c.put.ensures
    (Prints-append _ _ _ _ _ _ _ _ c.print_total.ensures
    (Prints-append _ _ _ _ _ _ _ _ c.put-2.ensures
    (Prints-append _ _ _ _ _ _ _ _ c.print_answer.ensures
    (Prints-append _ _ _ _ _ _ _ _ c.put-3.ensures
    (Prints-append _ _ _ _ _ _ _ _ c.print_number.ensures
    (Prints-append _ _ _ _ _ _ _ _ c.put-4.ensures
    (Prints-append _ _ _ _ _ _ _ _ c.print_number-2.ensures c.put-5.ensures)))))))
