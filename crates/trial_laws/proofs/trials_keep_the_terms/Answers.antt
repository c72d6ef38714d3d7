use Rattle.trial_laws.proofs.Trials.{first-terms, last-terms, terms-same, total-told}
use Rattle.trial_laws.proofs.trials_keep_the_terms.Goals as goal

pub returns-clause-ubl : goal.returns-clause-ubl
returns-clause-ubl c lines some few = first-terms lines (λ syntax. c.trial_texts_are_read_back.ensures syntax lines some few)

pub returns-clause-cii : goal.returns-clause-cii
returns-clause-cii c lines some few = last-terms lines (λ syntax. c.trial_texts_are_read_back.ensures syntax lines some few)

pub returns-clause-same : goal.returns-clause-same
returns-clause-same c lines steps some few = terms-same lines steps (λ syntax. c.trial_texts_are_read_back.ensures syntax lines some few)

pub returns-clause-total : goal.returns-clause-total
returns-clause-total c lines steps some few = total-told lines steps (λ syntax. c.trial_texts_are_read_back.ensures syntax lines some few)
