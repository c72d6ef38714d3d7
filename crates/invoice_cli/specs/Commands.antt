-- A command of the program's, as the words' job.
use Rattle.std.specs.Prelude.{List, ℕ, take, Some, None, option_map, Result, Ok, Err}
use Rattle.std.specs.Borrow.{Bor}
use Rattle.job_protocol.specs.Views.{text_of, texts_of}
use Rattle.invoice_jobs.specs.Sources.{sources_of}
use Rattle.invoice_cli.specs.Job.{Job, outline, show, totals, view, convert, convert_whole, check, validate, extract, query, trial, help, version, bad_word, Options}
use Rattle.invoice_cli.specs.Job.{words_of}
use Rattle.invoice_cli.specs.declared.words.Asked.{Asked}
use Rattle.invoice_cli.specs.declared.words.Command.{Command}
use Rattle.invoice_cli.specs.declared.words.Command.TheVariants as commands
use Rattle.invoice_cli.specs.declared.options.Given.{Given}
use Rattle.invoice_cli.specs.declared.options.RuleFiles.{RuleFiles}
use Rattle.invoice_cli.specs.declared.options.Scanned.{Scanned}

-- the files that were named so far
abbrev pub named_files : RuleFiles → List (List ℕ)
named_files files = texts_of (take files.count files.names)

abbrev pub given_options : Given → Options
given_options given = record {
  codes_file = option_map text_of given.sources.codes_file;
  extension_file = option_map text_of given.sources.extension_file;
  target = given.target;
  whole = given.whole;
  json = given.json;
  svrl = given.svrl;
  phase = option_map text_of given.phase;
  rules = named_files given.rules;
}

-- what follows by the options that were found
abbrev pub followed : (Options → ℕ → List (List ℕ) → Job) → Scanned → Job
followed further found = elim found.bad [ (Some number) ↦ bad_word number | None ↦ further (given_options found.given) found.number (words_of found.words.now) ]

-- what an operand makes, or the number of a bad word
abbrev pub by_operand : (List ℕ → Job) → Result (Bor (List ℕ)) ℕ → Job
by_operand make (Ok operand) = make operand.now
by_operand make (Err number) = bad_word number

-- what is asked, by the rule files that are named
abbrev pub asked_by : List (List ℕ) → Command → Job
asked_by rules (commands.Outline file) = outline file.now
asked_by rules (commands.Show format sources file) = show format (sources_of sources) file.now
asked_by rules (commands.Totals format sources file) = totals format (sources_of sources) file.now
asked_by rules (commands.View sources file) = view (sources_of sources) file.now
asked_by rules (commands.Convert syntax sources file) = convert syntax (sources_of sources) file.now
asked_by rules (commands.ConvertWhole syntax sources file) = convert_whole syntax (sources_of sources) file.now
asked_by rules (commands.Check format phase file) = check format (option_map text_of phase) rules file.now
asked_by rules (commands.Validate format sources file) = validate format (sources_of sources) file.now
asked_by rules (commands.Extract number file) = extract number file.now
asked_by rules (commands.Query expression file) = query expression.now file.now
asked_by rules (commands.Trial lines) = trial lines
asked_by rules commands.Help = help
asked_by rules commands.Version = version
asked_by rules (commands.BadWord number) = bad_word number

abbrev pub asked : Asked → Job
asked all = asked_by (named_files all.rules) all.command
