use Rattle.std.proofs.Common.{◌<◌, length, subst, ◌∙◌}
use Rattle.bind_meaning.specs.declared.picked.Picked.{Picked}
use Rattle.bind_seats.specs.Rowed.{IsRowed}
use Rattle.bind_seats.proofs.ListLemmas.{All-same-behind}
use Rattle.bind_seats.proofs.placeholders.staying.Goals as goal

pub stays-requires-clause-within : goal.stays-requires-clause-within
stays-requires-clause-within g c =
    All-same-behind (λ (q : Picked). q.node < length c.args.input.now.doc.now.nodes) c.args.picks.items c.picks.picks.items c.picks.place c.index.result.now
    c.requires.within c.picks.invariant.behind (subst (λ n. c.picks.place < n) (c.len-place-end.ensures ∙ c.args.picks.ok.0) c.picks-test.true) c.index.ensures

pub stays-requires-clause-rowed : goal.stays-requires-clause-rowed
stays-requires-clause-rowed g c =
    All-same-behind (IsRowed (length c.args.input.now.rows.now)) c.args.picks.items c.picks.picks.items c.picks.place c.index.result.now
    c.requires.rowed c.picks.invariant.behind (subst (λ n. c.picks.place < n) (c.len-place-end.ensures ∙ c.args.picks.ok.0) c.picks-test.true) c.index.ensures
