-- How a command ends, before what it wrote is handed on.
use Rattle.std.specs.Prelude.{◌≡◌, ℕ}
use Rattle.inv_base.specs.Counts.{next_count}
use Rattle.job_protocol.specs.declared.status.Status.{Status}
use Rattle.job_protocol.specs.declared.status.Status.TheVariants as statuses
use Rattle.job_protocol.specs.Lines.{bad_word_line}
use Rattle.job_protocol.specs.Outside.{Outside, TakesOrFails}
use Rattle.job_protocol.specs.Runs.{Runs, RunsInPieces}
use Rattle.trial_run.specs.Trials.{trial_of, trial_text}
use Rattle.invoice_cli.specs.declared.usage.TheConstants.{HELP}
use Rattle.invoice_cli.specs.Job.{Job, outline, query, trial, help, version, bad_word}
use Rattle.invoice_cli.specs.Answer.{version_text, protocol_of}
use Rattle.invoice_cli.specs.Answers.{Says, Tries}

-- Nothing but the output is touched.
pub record LeavesOthers (before after : Outside) : Type 0 where
  pub shelf : after.shelf ≡ before.shelf
  pub err : after.err ≡ before.err

-- The outline opens its document's file in any case.
abbrev pub Opens : Job → Outside → Outside → Type 0
Opens (outline file) before after = after.shelf.opens ≡ next_count before.shelf.opens
Opens _ before after = Unit {0}

-- A command that reads files runs by its protocol; another one leaves the shelf alone.
abbrev pub Ends : ℕ → Job → Outside → Outside → Status → Type 0
Ends steps (trial lines) before after status = LeavesOthers before after × Tries status (trial_text (trial_of lines steps)) before.out after.out
Ends steps help before after status = LeavesOthers before after × Says status HELP.now before.out after.out
Ends steps version before after status = LeavesOthers before after × Says status version_text before.out after.out
Ends steps (bad_word number) before after status =
    (status ≡ statuses.BadWords) × (after.shelf ≡ before.shelf) × (after.out ≡ before.out) × TakesOrFails (bad_word_line number) before.err after.err
Ends steps (query expression file) before after status = RunsInPieces (protocol_of steps (query expression file)) before after status
Ends steps job before after status = Opens job before after × Runs (protocol_of steps job) before after status
