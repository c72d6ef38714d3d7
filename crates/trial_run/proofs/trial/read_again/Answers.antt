use Rattle.std.proofs.Common.{length, ap, ◌∙◌}
use Rattle.trial_run.specs.Memory.{terms_read}
use Rattle.trial_run.specs.Trials.{total_in, same_terms}
use Rattle.trial_run.proofs.trial.read_again.Goals as goal

pub returns-clause-total : goal.returns-clause-total
returns-clause-total c = c.in_ok-total.ensures ∙ ap total_in (c.in_ok-last.ensures ∙ ap terms_read (c.bytes.ensures ∙ c.in_ok-cii.ensures))

pub returns-clause-same_terms : goal.returns-clause-same_terms
returns-clause-same_terms c =
    c.are_same_terms.ensures ∙ ap (λ last. same_terms c.args.invoice.now c.args.first.now last)
    (c.in_ok-last.ensures ∙ ap terms_read (c.bytes.ensures ∙ c.in_ok-cii.ensures))

pub returns-clause-bytes : goal.returns-clause-bytes
returns-clause-bytes c = ap length (c.bytes-2.ensures ∙ c.in_ok-cii.ensures)
