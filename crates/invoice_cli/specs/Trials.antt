-- What every trial finds, whatever the number of its lines is: the terms of the invoice that it generates, in both syntaxes,
-- and by its rules the last line alone.
use Rattle.std.specs.Prelude.{◌≡◌, ◌≤◌, ◌*◌, ℕ, true, Some}
use Rattle.inv_base.specs.Files.{Files}
use Rattle.inv_terms.specs.Values.{spelled}
use Rattle.trial_invoice.specs.Amounts.{sum_of_nets}
use Rattle.trial_invoice.specs.Generated.{amount}
use Rattle.trial_run.specs.declared.trial.Trial.{Trial}
use Rattle.trial_run.specs.Trials.{trial_of, trial_text}
use Rattle.job_protocol.specs.Protocol.{done}
use Rattle.invoice_cli.specs.Job.{most_lines, trial}
use Rattle.invoice_cli.specs.Answer.{answer_to}

-- A trial whose terms are the same, whose total is the generated one, 120 hundredths of the sum of the net amounts, and whose rules found nothing but one
-- report. How large the documents are and how many steps judging took are those of the trial.
abbrev pub kept_trial : ℕ → Trial → Trial
kept_trial lines tried = record {
  lines = tried.lines;
  total = Some (spelled (amount (120 * sum_of_nets lines)));
  same_terms = true;
  ubl_bytes = tried.ubl_bytes;
  cii_bytes = tried.cii_bytes;
  tally = record { failed = 0; reported = 1; errors = 0; minor = 0 };
  steps = tried.steps;
}

-- So the answer says `same terms yes`, that total and `failed 0, reported 1, errors 0, minor 0` for each number of lines that words may name.
abbrev pub TrialsKeepTerms : Type 0
TrialsKeepTerms = (steps lines : ℕ) (files : Files) → 1 ≤ lines → lines ≤ most_lines
    → answer_to steps (trial lines) files ≡ done (trial_text (kept_trial lines (trial_of lines steps)))
