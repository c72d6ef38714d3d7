use Rattle.std.proofs.Common.{ap}
use Rattle.std.specs.Prelude.{decimal}
use Rattle.inv_base.proofs.PrintingLemmas.{Prints-append, Prints-same}
use Rattle.trial_run.specs.Trials.{trial_text}
use Rattle.trial_run.proofs.printing.print_lines.Goals as goal

pub returns : goal.returns
unfolding trial_text
returns g c =
    let lines = Prints-same _ _ _ _ _ _ (ap decimal c.from.ensures) c.print_number.ensures in
    Prints-append _ _ _ _ _ _ _ _ c.put.ensures
    (Prints-append _ _ _ _ _ _ _ _ lines
    (Prints-append _ _ _ _ _ _ _ _ c.put-2.ensures
    (Prints-append _ _ _ _ _ _ _ _ c.print_documents.ensures
    (Prints-append _ _ _ _ _ _ _ _ c.print_counts.ensures
    (Prints-append _ _ _ _ _ _ _ _ c.put-3.ensures
    (Prints-append _ _ _ _ _ _ _ _ c.print_number-2.ensures c.put-4.ensures))))))
