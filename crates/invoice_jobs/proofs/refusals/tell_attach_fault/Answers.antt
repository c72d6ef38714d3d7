use Rattle.std.proofs.Common.{[], ◌∙◌}
use Rattle.inv_base.proofs.WritingLemmas.{WritesAll-nil}
use Rattle.inv_base.proofs.PrintingLemmas.{Prints-append, Prints-same}
use Rattle.job_protocol.proofs.Printed.{takes_printed}
use Rattle.invoice_jobs.proofs.refusals.tell_attach_fault.Goals as goal

pub returns : goal.returns
returns g c =
    let number = Prints-same _ _ _ _ _ _ (c.as_bytes.ensures.value ∙ c.format.ensures.text) c.put-2.ensures in
    let name = Prints-same _ _ _ _ _ _ (c.as_bytes-2.ensures.value ∙ c.attach_fault_name.ensures) c.put-4.ensures in
    let all = Prints-append _ _ _ _ _ _ _ _ c.put.ensures (Prints-append _ _ _ _ _ _ _ _ number (Prints-append _ _ _ _ _ _ _ _ c.put-3.ensures
    (Prints-append _ _ _ _ _ _ _ _ name c.put-5.ensures))) in
    takes_printed _ _ _ _ (all [] (g.E.Sink.view c.args.err.now) (rw c.new-printer.ensures (WritesAll-nil _)))
