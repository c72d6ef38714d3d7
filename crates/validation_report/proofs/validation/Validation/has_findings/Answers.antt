use Rattle.std.proofs.Common.{◌∙◌, List, length, sym, ap}
use Rattle.schematron_findings.specs.declared.finding.Line.{Line}
use Rattle.svrl_report.specs.Plain.{tally_of}
use Rattle.validation_report.specs.Held.{rules_in}
use Rattle.validation_report.specs.Validating.{Report, counts_against}
use Rattle.validation_report.proofs.TextLemmas.{held-findings}
use Rattle.validation_report.proofs.validation.Validation.has_findings.Goals as goal

pub returns : goal.returns
returns c =
    let spots = c.self.inside.spots in
    c.counts_against.ensures
    ∙ (ap (λ (found : List (List Line)). counts_against (length spots.faults.items) (length spots.misplaced.items) (tally_of (rules_in found)))
    c.deref.ensures.value
    ∙ sym (ap (λ (r : Report). r.findings) (sym c.self.view_is) ∙ held-findings c.self.inside.found.items spots))
