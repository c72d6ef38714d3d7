use Rattle.std.proofs.Common.{inl, inr, refl, subst, min}
use Rattle.inv_base.specs.Counts.{last_count}
use Rattle.inv_base.specs.Writing.{WritesAll, WritesFront}
use Rattle.trial_run.specs.Trials.{trial_text}
use Rattle.invoice_cli.proofs.trials.trial_by.Goals as goal

pub returns-in-Err : goal.returns-in-Err
returns-in-Err g c = (0, inr (refl, refl))

pub returns-in-Ok-write_trial : goal.returns-in-Ok-write_trial
returns-in-Ok-write_trial g c =
    let before = g.O.Sink.view c.args.out.now in
    let after = g.O.Sink.view c.write_trial.new.out in
    (min c.run_trial.new.steps last_count, inl (inl (refl, subst (λ t. WritesAll (trial_text t) before after) c.in-Ok.ensures c.in-Ok-write_trial.ensures)))

pub returns : goal.returns
returns g c =
    let before = g.O.Sink.view c.args.out.now in
    let after = g.O.Sink.view c.write_trial.new.out in
    (min c.run_trial.new.steps last_count, inl (inr (refl, subst (λ t. WritesFront (trial_text t) before after) c.in-Ok.ensures c.in-Err-write_trial.ensures)))
