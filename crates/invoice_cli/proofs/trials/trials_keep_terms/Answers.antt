use Rattle.std.proofs.Common.{◌≡◌, ◌*◌, ℕ, true, Some, ap}
use Rattle.inv_terms.specs.Values.{spelled}
use Rattle.trial_invoice.specs.Amounts.{sum_of_nets}
use Rattle.trial_invoice.specs.Generated.{amount}
use Rattle.trial_run.specs.declared.trial.Trial.{Trial}
use Rattle.trial_run.specs.Trials.{trial_of, trial_text}
use Rattle.job_protocol.specs.Protocol.{done}
use Rattle.invoice_cli.specs.Trials.{kept_trial}
use Rattle.invoice_cli.proofs.trials.trials_keep_terms.Goals as goal

kept : (lines : ℕ) (tried : Trial) → tried.same_terms ≡ true → tried.total ≡ Some (spelled (amount (120 * sum_of_nets lines)))
    → tried.tally ≡ record { failed = 0; reported = 1; errors = 0; minor = 0 } → tried ≡ kept_trial lines tried
kept lines tried same total told = λ i. record {
  lines = tried.lines;
  total = total i;
  same_terms = same i;
  ubl_bytes = tried.ubl_bytes;
  cii_bytes = tried.cii_bytes;
  tally = told i;
  steps = tried.steps;
}

pub returns : goal.returns
returns c = λ steps lines files some few. ap (λ t. done (trial_text t)) (kept lines (trial_of lines steps)
    (c.trials_keep_the_terms.ensures.same lines steps some few) (c.trials_keep_the_terms.ensures.total lines steps some few)
    (c.trials_find_one_report.ensures.tally lines steps some few))
