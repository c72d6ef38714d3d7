use Rattle.inv_base.proofs.PrintingLemmas.{Prints-append}
use Rattle.inv_totals.proofs.printing.print_difference.Goals as goal

pub returns : goal.returns
returns g c =
    Prints-append _ _ _ _ _ _ _ _ c.print_context.ensures (Prints-append _ _ _ _ _ _ _ _ c.print_term.ensures (Prints-append _ _ _ _ _ _ _ _ c.put.ensures
    (Prints-append _ _ _ _ _ _ _ _ c.print_stated.ensures (Prints-append _ _ _ _ _ _ _ _ c.put-2.ensures
    (Prints-append _ _ _ _ _ _ _ _ c.print_computed.ensures c.put-3.ensures)))))
