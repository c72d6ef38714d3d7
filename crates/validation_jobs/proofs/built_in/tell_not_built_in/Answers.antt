use Rattle.std.proofs.Common.{[]}
use Rattle.inv_base.proofs.WritingLemmas.{WritesAll-nil}
use Rattle.job_protocol.proofs.Printed.{takes_printed}
use Rattle.validation_jobs.proofs.built_in.tell_not_built_in.Goals as goal

pub returns : goal.returns
returns g c = takes_printed _ _ _ _ (c.put.ensures [] (g.E.Sink.view c.args.err.now) (rw c.new-printer.ensures (WritesAll-nil _)))
