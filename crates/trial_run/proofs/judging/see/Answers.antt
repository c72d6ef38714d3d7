use Rattle.std.proofs.Common.{◌≡◌, option_map, subst}
use Rattle.std.specs.Prelude.{IfOk}
use Rattle.svrl_report.specs.Plain.{tally_of}
use Rattle.trial_run.specs.Memory.{terms_in, terms_read}
use Rattle.trial_run.specs.Trials.{found_in, trial_rules, trial_findings}
use Rattle.trial_run.proofs.judging.see.Goals as goal

pub returns-clause-invoice : goal.returns-clause-invoice
unfolding terms_read
returns-clause-invoice g c = subst (λ nodes. IfOk c.seen_in-seen.result (λ seen. seen.invoice ≡ terms_in nodes)) c.in_ok-doc.ensures
    c.seen_in-seen.ensures.invoice

pub returns-clause-tally : goal.returns-clause-tally
unfolding trial_findings
returns-clause-tally g c =
    subst (λ nodes. IfOk c.seen_in-seen.result (λ seen. seen.tally ≡ tally_of (found_in trial_rules nodes))) c.in_ok-doc.ensures c.seen_in-seen.ensures.tally
