use Rattle.std.proofs.Common.{◌≡◌, ◌∙◌, ap, sym, subst, false}
use Rattle.inv_terms.specs.Lacking as spec
use Rattle.inv_terms.proofs.MapLemmas.{any-map}
use Rattle.inv_terms.proofs.PresenceLemmas.{has-none}
use Rattle.inv_terms.proofs.missing.has.Goals as goal

pub returns-then-may_have : goal.returns-then-may_have
returns-then-may_have g c =
    c.any_at.ensures ∙ (any-map (spec.is_at c.args.context c.args.term) g.T.Seated.seat_of c.standing.inside.seats.now ∙
    ap (λ seats. spec.has seats c.args.context c.args.term) c.standing.view_is)

pub returns-else-may_have : goal.returns-else-may_have
returns-else-may_have g c =
    c.if-may_have.false ∙ sym (subst (λ seats. spec.has seats c.args.context c.args.term ≡ false) c.standing.view_is
    (has-none c.standing.inside.presence c.args.term c.args.context (sym c.may_have.ensures ∙ c.if-may_have.false) _ c.standing.invariant))
