use Rattle.std.proofs.Common.{[]}
use Rattle.inv_base.proofs.WritingLemmas.{WritesAll-nil}
use Rattle.trial_run.proofs.printing.print_trial.Goals as goal

pub returns : goal.returns
returns g c = c.print_lines.ensures [] (g.K.Sink.view c.args.out.now) (rw c.new-printer.ensures (WritesAll-nil _))
