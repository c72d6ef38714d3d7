use Rattle.std.proofs.Common.{◌≡◌, ◌∙◌, ap, sym, subst, false}
use Rattle.term_table.specs.declared.contexts.Seat.{Seat}
use Rattle.term_table.specs.SemanticModel.{same_term}
use Rattle.inv_terms.specs.Lacking as spec
use Rattle.inv_terms.proofs.MapLemmas.{any-map}
use Rattle.inv_terms.proofs.PresenceLemmas.{has-no_term}
use Rattle.inv_terms.proofs.missing.has_term.Goals as goal

pub returns-then-may_have : goal.returns-then-may_have
returns-then-may_have g c =
    c.any_of_term.ensures ∙ (any-map (λ (s : Seat). same_term s.term c.args.term) g.T.Seated.seat_of c.standing.inside.seats.now ∙
    ap (λ seats. spec.has_term seats c.args.term) c.standing.view_is)

pub returns-else-may_have : goal.returns-else-may_have
returns-else-may_have g c =
    c.if-may_have.false ∙ sym (subst (λ seats. spec.has_term seats c.args.term ≡ false) c.standing.view_is
    (has-no_term c.standing.inside.presence c.args.term (sym c.may_have.ensures ∙ c.if-may_have.false) _ c.standing.invariant))
