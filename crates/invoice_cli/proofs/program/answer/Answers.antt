use Rattle.std.proofs.Common.{refl, sym, subst}
use Rattle.std.specs.Prelude.{option_map}
use Rattle.job_protocol.specs.Outside.{Outside}
use Rattle.job_protocol.specs.Runs.{Runs}
use Rattle.document_jobs.specs.Checks.{check_protocol}
use Rattle.job_protocol.specs.Views.{text_of}
use Rattle.invoice_cli.specs.Job.{words_of}
use Rattle.invoice_cli.proofs.AnswersLemmas.{asked_is}
use Rattle.invoice_cli.proofs.TrialLemmas.{lines_are_few}
use Rattle.invoice_cli.proofs.program.answer.Goals as goal

pub returns-in-Outline : goal.returns-in-Outline
returns-in-Outline g c = (
  0,
  rw (← asked_is c.command_of-asked.result c.command_of-asked.ensures c.in-Outline.is)
      (c.outline.ensures.opens, c.outline.ensures.runs),
)

pub returns-in-Show : goal.returns-in-Show
returns-in-Show g c = (0, rw (← asked_is c.command_of-asked.result c.command_of-asked.ensures c.in-Show.is) (tt, c.show.ensures))

pub returns-in-Totals : goal.returns-in-Totals
returns-in-Totals g c = (0, rw (← asked_is c.command_of-asked.result c.command_of-asked.ensures c.in-Totals.is) (tt, c.totals.ensures))

pub returns-in-View : goal.returns-in-View
returns-in-View g c = (0, rw (← asked_is c.command_of-asked.result c.command_of-asked.ensures c.in-View.is) (tt, c.view.ensures))

pub returns-in-Convert : goal.returns-in-Convert
returns-in-Convert g c = (0, rw (← asked_is c.command_of-asked.result c.command_of-asked.ensures c.in-Convert.is) (tt, c.convert.ensures))

pub returns-in-ConvertWhole : goal.returns-in-ConvertWhole
returns-in-ConvertWhole g c = (0, rw (← asked_is c.command_of-asked.result c.command_of-asked.ensures c.in-ConvertWhole.is) (tt, c.convert_whole.ensures))

pub returns-in-Check : goal.returns-in-Check
returns-in-Check g c =
    let before : Outside = record { shelf = g.S.Shelf.view c.args.shelf.now; out = g.O.Sink.view c.args.out.now; err = g.E.Sink.view c.args.err.now } in
    let after : Outside = record { shelf = g.S.Shelf.view c.check.new.shelf; out = g.O.Sink.view c.check.new.out; err = g.E.Sink.view c.check.new.err } in
    let phase = option_map text_of c.in-Check.phase in
    let runs = subst (λ names. Runs (check_protocol c.in-Check.format phase names c.in-Check.file.now) before after c.check.result) c.as_slice.ensures
    c.check.ensures in
    (0, rw (← asked_is c.command_of-asked.result c.command_of-asked.ensures c.in-Check.is) (tt, runs))

pub returns-in-Validate : goal.returns-in-Validate
returns-in-Validate g c = (0, rw (← asked_is c.command_of-asked.result c.command_of-asked.ensures c.in-Validate.is) (tt, c.validate.ensures))

pub returns-in-Extract : goal.returns-in-Extract
returns-in-Extract g c = (0, rw (← asked_is c.command_of-asked.result c.command_of-asked.ensures c.in-Extract.is) (tt, c.extract.ensures))

pub returns-in-Query : goal.returns-in-Query
returns-in-Query g c = (0, rw (← asked_is c.command_of-asked.result c.command_of-asked.ensures c.in-Query.is) c.query.ensures)

pub trial-requires : goal.trial-requires
trial-requires g c = lines_are_few (words_of c.args.words.now) c.in-Trial.lines
    (sym (asked_is c.command_of-asked.result c.command_of-asked.ensures c.in-Trial.is))

pub returns-in-Trial : goal.returns-in-Trial
returns-in-Trial g c = (
  c.trial.ensures.0,
  rw (← asked_is c.command_of-asked.result c.command_of-asked.ensures c.in-Trial.is) (record { shelf = refl; err = refl }, c.trial.ensures.1),
)

pub returns-in-Help : goal.returns-in-Help
returns-in-Help g c =
    (0, rw (← asked_is c.command_of-asked.result c.command_of-asked.ensures c.in-Help.is) (record { shelf = refl; err = refl }, c.say.ensures))

pub returns-in-Version : goal.returns-in-Version
returns-in-Version g c =
    (0, rw (← asked_is c.command_of-asked.result c.command_of-asked.ensures c.in-Version.is) (record { shelf = refl; err = refl }, c.say_version.ensures))

pub returns-in-BadWord : goal.returns-in-BadWord
returns-in-BadWord g c =
    (0, rw (← asked_is c.command_of-asked.result c.command_of-asked.ensures c.in-BadWord.is) (refl, refl, refl, c.tell_bad_word.ensures))
