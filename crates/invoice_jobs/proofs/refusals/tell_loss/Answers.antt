use Rattle.std.proofs.Common.{[], ap, ◌∙◌}
use Rattle.std.specs.Prelude.{decimal}
use Rattle.inv_base.proofs.WritingLemmas.{WritesAll-nil}
use Rattle.inv_base.proofs.PrintingLemmas.{Prints-append, Prints-same}
use Rattle.job_protocol.proofs.Printed.{takes_printed}
use Rattle.invoice_jobs.proofs.refusals.tell_loss.Goals as goal

pub returns : goal.returns
returns g c =
    let place = Prints-same _ _ _ _ _ _ (c.as_bytes.ensures.value ∙ (c.format.ensures.text ∙ ap decimal c.place.ensures)) c.put-2.ensures in
    let all = Prints-append _ _ _ _ _ _ _ _ c.put.ensures (Prints-append _ _ _ _ _ _ _ _ place (Prints-append _ _ _ _ _ _ _ _ c.put-3.ensures
    (Prints-append _ _ _ _ _ _ _ _ c.print_node_name.ensures c.put-4.ensures))) in
    takes_printed _ _ _ _ (all [] (g.E.Sink.view c.args.err.now) (rw c.new-printer.ensures (WritesAll-nil _)))
