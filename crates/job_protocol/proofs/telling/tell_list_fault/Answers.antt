use Rattle.std.proofs.Common.{[]}
use Rattle.inv_base.proofs.WritingLemmas.{WritesAll-nil}
use Rattle.inv_base.proofs.PrintingLemmas.{Prints-append, Prints-same}
use Rattle.job_protocol.proofs.Printed.{takes_printed}
use Rattle.job_protocol.proofs.telling.tell_list_fault.Goals as goal

pub returns : goal.returns
returns g c =
    let file = Prints-same _ _ _ _ _ _ c.as_bytes.ensures.value c.put-2.ensures in
    let all = Prints-append _ _ _ _ _ _ _ _ c.put.ensures (Prints-append _ _ _ _ _ _ _ _ file (Prints-append _ _ _ _ _ _ _ _ c.put-3.ensures
    (Prints-append _ _ _ _ _ _ _ _ c.print_list_fault.ensures c.put-4.ensures))) in
    takes_printed _ _ _ _ (all [] (g.E.Sink.view c.args.err.now) (rw c.new-printer.ensures (WritesAll-nil _)))
