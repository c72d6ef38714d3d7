use Rattle.std.proofs.Common.{All, sym, subst, ◌∙◌}
use Rattle.bind_table.specs.Limits.{HasSteps, HasSmallNumbers, HasRooms}
use Rattle.bind_run.specs.Extensions.{terms_for}
use Rattle.bind_run.proofs.RoomLemmas.{steps-each, numbers-each, rooms-each}
use Rattle.bind_run.proofs.extensions.with_terms.Goals as goal

pub extend-more-requires-clause-steps : goal.extend-more-requires-clause-steps
extend-more-requires-clause-steps c = subst (All HasSteps) (sym c.requires.own) (steps-each c.args.table)

pub extend-more-requires-clause-numbers : goal.extend-more-requires-clause-numbers
extend-more-requires-clause-numbers c = subst (All HasSmallNumbers) (sym c.requires.own) (numbers-each c.args.table)

pub extend-more-requires-clause-room : goal.extend-more-requires-clause-room
extend-more-requires-clause-room c =
    subst (λ added. HasRooms c.args.table c.args.own.now added) (sym (c.as_slice.ensures ∙ c.in_ok-added.ensures))
    (subst (λ rows. HasRooms c.args.table rows (terms_for c.args.table c.args.terms.now)) (sym c.requires.own)
    (rooms-each c.args.table c.args.terms.now c.requires.fine))
