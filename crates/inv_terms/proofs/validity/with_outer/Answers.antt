use Rattle.std.proofs.Common.{◌≡◌, true, sym, ap, ◌∙◌}
use Rattle.inv_terms.specs.Validity as spec
use Rattle.inv_terms.specs.Opened.{opened_missing}
use Rattle.inv_terms.proofs.validity.with_outer.Goals as goal

pub returns-then-opens_outer : goal.returns-then-opens_outer
returns-then-opens_outer c =
    let opens : spec.opens_outer c.args.before c.args.context ≡ true = sym c.opens_outer.ensures ∙ c.if-opens_outer.true in
    rw opens (c.earlier.ensures ∙ ap (spec.earlier c.args.first) (c.missing_in_front.ensures ∙ ap (opened_missing c.args.rest.now) c.without_inner.ensures))
