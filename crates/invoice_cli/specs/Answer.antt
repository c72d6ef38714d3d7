-- What the program answers.
use Rattle.std.specs.Prelude.{ℕ, List, [], ◌∷◌, ◌++◌}
use Rattle.inv_base.specs.Files.{Files}
use Rattle.job_protocol.specs.declared.status.Status.TheVariants as statuses
use Rattle.job_protocol.specs.Protocol.{Answer, Protocol, ends, done, refusal, answer_of}
use Rattle.job_protocol.specs.Lines.{bad_word_line}
use Rattle.trial_run.specs.Trials.{trial_of, trial_text}
use Rattle.rule_texts.specs.declared.version.TheConstants.{RULES_VERSION}
use Rattle.invoice_cli.specs.declared.usage.TheConstants.{HELP, VERSION}
use Rattle.invoice_cli.specs.Job.{Job, outline, show, totals, view, convert, convert_whole, check, validate, extract, query, trial, help, version, bad_word}
use Rattle.invoice_jobs.specs.Invoices.{show_protocol, convert_protocol, convert_whole_protocol, extract_protocol}
use Rattle.invoice_jobs.specs.Totals.{totals_protocol}
use Rattle.invoice_jobs.specs.Pages.{view_protocol}
use Rattle.document_jobs.specs.Outline.{outline_protocol}
use Rattle.document_jobs.specs.Queries.{query_protocol}
use Rattle.document_jobs.specs.Checks.{check_protocol}
use Rattle.validation_jobs.specs.Validation.{validate_protocol}

-- the name of the program and its version, and in a second line which rules are built in
abbrev pub version_text : List ℕ
version_text = VERSION.now ++ (RULES_VERSION.now ++ 0xA ∷ [])

-- What a job reads and answers. Only the last line of a trial tells how many steps its judging took, which nothing defines.
abbrev pub protocol_of : ℕ → Job → Protocol
protocol_of steps (outline file) = outline_protocol file
protocol_of steps (show format sources file) = show_protocol format sources file
protocol_of steps (totals format sources file) = totals_protocol format sources file
protocol_of steps (view sources file) = view_protocol sources file
protocol_of steps (convert syntax sources file) = convert_protocol syntax sources file
protocol_of steps (convert_whole syntax sources file) = convert_whole_protocol syntax sources file
protocol_of steps (check format phase rules file) = check_protocol format phase rules file
protocol_of steps (validate format sources file) = validate_protocol format sources file
protocol_of steps (extract number file) = extract_protocol number file
protocol_of steps (query expression file) = query_protocol expression file
protocol_of steps (trial lines) = ends (done (trial_text (trial_of lines steps)))
protocol_of steps help = ends (done HELP.now)
protocol_of steps version = ends (done version_text)
protocol_of steps (bad_word number) = ends (refusal statuses.BadWords (bad_word_line number))

abbrev pub answer_to : ℕ → Job → Files → Answer
answer_to steps job files = answer_of (protocol_of steps job) files
