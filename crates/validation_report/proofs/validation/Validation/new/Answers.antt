use Rattle.std.proofs.Common.{◌∙◌, List, subst}
use Rattle.std.proofs.lemmas.Result.{IfOk-weaker}
use Rattle.schematron_findings.specs.declared.finding.Line.{Line}
use Rattle.validation_report.specs.Held.{ArePlaced, validation_of}
use Rattle.validation_report.proofs.TextLemmas.{kept-report}
use Rattle.validation_report.proofs.validation.Validation.new.Goals as goal

pub returns-in-Ok : goal.returns-in-Ok
returns-in-Ok c = IfOk-weaker c.with.result _ _ (λ report is content taken.
    let of : List Line → _ = validation_of content c.args.doc.now c.args.reading.now in
    let spots = c.in-Ok.ready.spots in
    let placed = subst (λ (lines : List Line). ArePlaced (of lines) spots) c.lines.ensures (c.in-Ok.ensures.placed content taken) in
    is ∙ kept-report (of c.args.findings) c.in-Ok.ready.reading spots c.in-Ok.ensures.reading placed)
    c.with.ensures
