use Rattle.inv_base.proofs.PrintingLemmas.{Prints-append}
use Rattle.svrl_report.proofs.plain.print_finding.Goals as goal

pub returns : goal.returns
returns g c =
    Prints-append _ _ _ _ _ _ _ _ c.print_outcome.ensures
    (Prints-append _ _ _ _ _ _ _ _ c.put.ensures
    (Prints-append _ _ _ _ _ _ _ _ c.print_id.ensures
    (Prints-append _ _ _ _ _ _ _ _ c.put-2.ensures
    (Prints-append _ _ _ _ _ _ _ _ c.print_text.ensures
    (Prints-append _ _ _ _ _ _ _ _ c.put-3.ensures
    (Prints-append _ _ _ _ _ _ _ _ c.print_message.ensures c.put-4.ensures))))))
