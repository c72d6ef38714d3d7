use Rattle.std.proofs.Common.{sym, ◌∙◌}
use Rattle.bind_terms.proofs.Gathering.{at-one-spot}
use Rattle.bind_terms.proofs.found.precedes.Goals as goal

pub returns-in-Equal : goal.returns-in-Equal
returns-in-Equal c =
    at-one-spot c.args.a.now c.args.b.now c.has_earlier_kind.result (sym (c.spots_are_ordered.ensures c.args.a.now.spot c.args.b.now.spot)
    ∙ (sym c.cmp.ensures ∙ c.in-Equal.is)) c.has_earlier_kind.ensures
