use Rattle.std.proofs.Common.{drop, sym, subst, ◌∙◌}
use Rattle.inv_base.specs.Outside.{SinkView}
use Rattle.inv_base.specs.Buffering.{with_held}
use Rattle.held_output.specs.Origins.{HandedOver}
use Rattle.held_output.proofs.HoldingLemmas.{with_none}
use Rattle.invoice_cli.specs.Job.{job, words_of}
use Rattle.invoice_cli.specs.Endings.{Ends}
use Rattle.invoice_cli.proofs.HandingLemmas.{ends_handed, answers_of_ends}
use Rattle.invoice_cli.proofs.program.answer_held.Goals as goal

pub returns-clause-same_reference : goal.returns-clause-same_reference
returns-clause-same_reference g c = c.hand_over.ensures.name ∙ sym c.requires.name

pub returns-clause-answers : goal.returns-clause-answers
returns-clause-answers g c =
    let start = g.O.Sink.view c.args.lent.sink.now in
    let shelf = g.S.Shelf.view c.args.shelf.now in
    let shelf' = g.S.Shelf.view c.answer-status.new.shelf in
    let err = g.E.Sink.view c.args.err.now in
    let err' = g.E.Sink.view c.answer-status.new.err in
    let wanted = job (words_of c.args.words.now) in
    let ends = c.answer-status.ensures in
    let written = c.answer-status.new.out in
    let shown = with_held (g.O.Sink.view written.sink.now) (drop written.sent written.held.items) in
    let now = g.O.Sink.view c.hand_over.result.0.sink.now in
    let ran = subst (λ (o : SinkView). Ends ends.0 wanted (record { shelf = shelf; out = o; err = err })
    (record { shelf = shelf'; out = shown; err = err' }) c.answer-status.result)
    (c.new-held.ensures ∙ with_none start) ends.1 in
    let handed = subst (λ (s : SinkView). HandedOver c.answer-status.result c.hand_over.result.1 s shown now)
    (sym c.requires.start) c.hand_over.ensures.handed in (
      ends.0,
      answers_of_ends ends.0 wanted _ _ _
          (ends_handed start shown now c.answer-status.result c.hand_over.result.1 shelf shelf' err err' handed ends.0 wanted ran),
    )
