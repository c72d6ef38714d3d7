use Rattle.std.proofs.Common.{ap, ◌∙◌}
use Rattle.inv_terms.specs.Lacking.{missing_from, first_missing}
use Rattle.inv_terms.proofs.missing.first_missing.Goals as goal

pub returns : goal.returns
returns g c = c.missing_among.ensures ∙ (ap (missing_from c.standing_of.result c.args.context 0) c.term_rows.ensures ∙
    ap (λ seats. first_missing seats c.args.context) c.standing_of.ensures)
