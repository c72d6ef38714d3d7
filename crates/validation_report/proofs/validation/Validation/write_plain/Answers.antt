use Rattle.std.proofs.Common.{◌≡◌, ◌∙◌, ℕ, List, sym, ap, subst}
use Rattle.inv_base.specs.Writing.{Writes}
use Rattle.schematron_findings.specs.declared.finding.Line.{Line}
use Rattle.validation_report.specs.Held.{held_plain, reading_in, rules_in}
use Rattle.validation_report.specs.Validating.{Report}
use Rattle.validation_report.proofs.TextLemmas.{held-plain}
use Rattle.validation_report.proofs.validation.Validation.write_plain.Goals as goal

pub returns : goal.returns
returns g c =
    let spots = c.self.inside.spots in
    let plain : List (List Line) → List ℕ = λ found. held_plain (reading_in found) (rules_in found) spots
    in
    let is : c.args.self.now.plain ≡ plain c.deref.result.now =
    ap (λ (r : Report). r.plain) (sym c.self.view_is)
    ∙ (held-plain c.self.inside.found.items spots ∙ sym (ap plain c.deref.ensures.value)) in
    subst (λ t. Writes c.write_report.result t (g.K.Sink.view c.args.out.now) (g.K.Sink.view c.write_report.new.out)) (sym is) c.write_report.ensures
