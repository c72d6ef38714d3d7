use Rattle.std.proofs.Common.{◌||◌, ◌∙◌, ap}
use Rattle.std.specs.List.{list_any}
use Rattle.term_table.specs.declared.contexts.Seat.{Seat}
use Rattle.inv_terms.specs.Lacking as spec
use Rattle.inv_terms.proofs.MapLemmas.{any-map}
use Rattle.inv_terms.proofs.missing.has_occurrence.Goals as goal

pub returns : goal.returns
returns g c =
    let is_in = λ (s : Seat). spec.is_slot_in c.args.group s.context.outer || spec.is_slot_in c.args.group s.context.inner in
    c.any_in_group.ensures ∙ (any-map is_in g.T.Seated.seat_of c.standing.inside.seats.now ∙ ap (list_any is_in) c.standing.view_is)
