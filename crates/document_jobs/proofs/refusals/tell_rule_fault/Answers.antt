use Rattle.std.proofs.Common.{[], ◌∷◌, ◌∙◌}
use Rattle.inv_base.proofs.WritingLemmas.{WritesAll-nil}
use Rattle.inv_base.proofs.PrintingLemmas.{Prints-append, Prints-same}
use Rattle.job_protocol.proofs.Printed.{takes_printed}
use Rattle.document_jobs.proofs.refusals.tell_rule_fault.Goals as goal

pub returns : goal.returns
returns g c =
    let file = Prints-same _ _ _ _ _ _ c.as_bytes.ensures.value c.put-2.ensures in
    let kind = Prints-same _ _ _ _ _ _ (c.as_bytes-2.ensures.value ∙ c.rule_kind_name.ensures) c.put-4.ensures in
    let place = Prints-same _ _ _ _ _ _ (c.as_bytes-3.ensures.value ∙ c.format.ensures.text) c.put-6.ensures in
    let attribute = Prints-same _ _ _ _ _ _ (c.as_bytes-4.ensures.value ∙ c.rule_attribute_name.ensures) c.put-8.ensures in
    let all = Prints-append _ _ _ _ _ _ _ _ c.put.ensures (Prints-append _ _ _ _ _ _ _ _ file (Prints-append _ _ _ _ _ _ _ _ c.put-3.ensures
    (Prints-append _ _ _ _ _ _ _ _ kind (Prints-append _ _ _ _ _ _ _ _ c.put-5.ensures (Prints-append _ _ _ _ _ _ _ _ place
    (Prints-append (0x20 ∷ []) _ _ _ _ _ _ _ c.put-7.ensures (Prints-append _ _ _ _ _ _ _ _ attribute
    (Prints-append _ _ _ _ _ _ _ _ c.print_reason.ensures c.put-9.ensures)))))))) in
    takes_printed _ _ _ _ (all [] (g.E.Sink.view c.args.err.now) (rw c.new-printer.ensures (WritesAll-nil _)))
