use Rattle.std.proofs.Common.{subst}
use Rattle.job_protocol.specs.Outside.{TakesOrFails}
use Rattle.document_jobs.specs.Checks.{fault_line, line_at}
use Rattle.document_jobs.proofs.refusals.tell_at_home.Goals as goal

pub returns-in-None : goal.returns-in-None
returns-in-None g c =
    subst (λ home. TakesOrFails (line_at c.args.name.now c.args.library.now c.args.fault.now home) (g.E.Sink.view c.args.err.now)
    (g.E.Sink.view c.tell_rule_fault.new.err))
    c.in-None.ensures c.tell_rule_fault.ensures

pub returns-in-Some : goal.returns-in-Some
returns-in-Some g c =
    let takes = subst (λ file. TakesOrFails (fault_line file c.in-Some.place.byte c.args.fault.now) (g.E.Sink.view c.args.err.now)
    (g.E.Sink.view c.tell_rule_fault-in-Some.new.err))
    c.file_at.ensures c.tell_rule_fault-in-Some.ensures in
    subst (λ home. TakesOrFails (line_at c.args.name.now c.args.library.now c.args.fault.now home) (g.E.Sink.view c.args.err.now)
    (g.E.Sink.view c.tell_rule_fault-in-Some.new.err))
    c.in-Some.ensures takes
