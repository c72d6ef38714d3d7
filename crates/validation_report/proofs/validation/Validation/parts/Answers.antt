use Rattle.std.proofs.Common.{◌∙◌, sym, ap}
use Rattle.validation_report.specs.Held.{held_contents, reading_in, rules_in}
use Rattle.validation_report.specs.Validating.{Report}
use Rattle.validation_report.proofs.TextLemmas.{held-contents}
use Rattle.validation_report.proofs.validation.Validation.parts.Goals as goal

pub returns : goal.returns
returns c =
    let spots = c.self.inside.spots in
    (λ i. held_contents (c.reading_in.ensures i) (c.rules_in.ensures i) spots)
    ∙ ((λ i. held_contents (reading_in (c.deref.ensures.value i)) (rules_in (c.deref-2.ensures.value i)) spots)
    ∙ sym (ap (λ (r : Report). r.contents) (sym c.self.view_is) ∙ held-contents c.self.inside.found.items spots))
