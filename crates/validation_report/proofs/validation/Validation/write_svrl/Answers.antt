use Rattle.std.proofs.Common.{◌≡◌, ◌∙◌, List, sym, ap, subst}
use Rattle.std.specs.Prelude.{encode_utf8_all}
use Rattle.inv_base.specs.Writing.{Writes}
use Rattle.schematron_findings.specs.declared.finding.Line.{Line}
use Rattle.svrl_report.specs.Svrl.{svrl_report}
use Rattle.validation_report.specs.Validating.{Report}
use Rattle.validation_report.proofs.TextLemmas.{held-svrl}
use Rattle.validation_report.proofs.validation.Validation.write_svrl.Goals as goal

pub returns : goal.returns
returns g c =
    let spots = c.self.inside.spots in
    let is : c.args.self.now.svrl ≡ encode_utf8_all (svrl_report c.deref.result.now) =
    ap (λ (r : Report). r.svrl) (sym c.self.view_is)
    ∙ (held-svrl c.self.inside.found.items spots
    ∙ sym (ap (λ (found : List (List Line)). encode_utf8_all (svrl_report found)) c.deref.ensures.value)) in
    subst (λ t. Writes c.write_svrl.result t (g.K.Sink.view c.args.out.now) (g.K.Sink.view c.write_svrl.new.out)) (sym is) c.write_svrl.ensures
