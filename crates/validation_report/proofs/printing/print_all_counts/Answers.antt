use Rattle.std.proofs.Common.{ap}
use Rattle.std.specs.Prelude.{decimal, length}
use Rattle.inv_base.proofs.PrintingLemmas.{Prints-append, Prints-same}
use Rattle.svrl_report.specs.Plain.{counts_line}
use Rattle.validation_report.proofs.printing.print_all_counts.Goals as goal

pub returns : goal.returns
returns g c =
    let faults = Prints-same _ _ _ _ _ _ (ap (λ xs. decimal (length xs)) c.as_slice.ensures.value) c.print_number.ensures in
    let passed = Prints-same _ _ _ _ _ _ (ap (λ xs. decimal (length xs)) c.as_slice-2.ensures.value) c.print_number-2.ensures in
    let unread = Prints-same _ _ _ _ _ _ (ap (λ xs. decimal (length xs)) c.as_slice-3.ensures.value) c.print_number-3.ensures in
    let misplaced = Prints-same _ _ _ _ _ _ (ap (λ xs. decimal (length xs)) c.as_slice-4.ensures.value) c.print_number-4.ensures in
    let counts = Prints-same _ _ _ _ _ _ (ap counts_line c.of.ensures) c.print_counts.ensures in
    Prints-append _ _ _ _ _ _ _ _ c.put.ensures
    (Prints-append _ _ _ _ _ _ _ _ faults
    (Prints-append _ _ _ _ _ _ _ _ c.put-2.ensures
    (Prints-append _ _ _ _ _ _ _ _ passed
    (Prints-append _ _ _ _ _ _ _ _ c.put-3.ensures
    (Prints-append _ _ _ _ _ _ _ _ unread
    (Prints-append _ _ _ _ _ _ _ _ c.put-4.ensures
    (Prints-append _ _ _ _ _ _ _ _ misplaced (Prints-append _ _ _ _ _ _ _ _ c.put-5.ensures counts))))))))
