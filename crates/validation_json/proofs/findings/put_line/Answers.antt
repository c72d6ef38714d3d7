use Rattle.std.proofs.Common.{ap, sym}
use Rattle.schematron_findings.specs.declared.finding.Line.{Line}
use Rattle.validation_report.specs.Held.{placed_line}
use Rattle.json_text.proofs.MakingLemmas.{Wrote-same, Wrote-last}
use Rattle.validation_json.specs.ValidationJson.{placed_objects}
use Rattle.validation_json.proofs.findings.put_line.Goals as goal

pub returns-in-Found : goal.returns-in-Found
returns-in-Found g c =
    Wrote-same _ _ _ _ _ _ (sym (ap (λ (line : Line). placed_objects g.F.Form.said (placed_line c.args.place line)) c.in-Found.is))
    (Wrote-last _ _ _ _ _ c.put.ensures)
