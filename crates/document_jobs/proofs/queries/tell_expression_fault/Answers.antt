use Rattle.std.proofs.Common.{[]}
use Rattle.inv_base.proofs.WritingLemmas.{WritesAll-nil}
use Rattle.inv_base.proofs.PrintingLemmas.{Prints-append}
use Rattle.job_protocol.proofs.Printed.{takes_printed}
use Rattle.document_jobs.proofs.queries.tell_expression_fault.Goals as goal

pub returns : goal.returns
returns g c =
    let all = Prints-append _ _ _ _ _ _ _ _ c.put.ensures (Prints-append _ _ _ _ _ _ _ _ c.print_query_fault.ensures c.put-2.ensures) in
    takes_printed _ _ _ _ (all [] (g.E.Sink.view c.args.err.now) (rw c.new-printer.ensures (WritesAll-nil _)))
