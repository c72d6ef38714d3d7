use Rattle.std.proofs.Common.{ap, ◌∙◌}
use Rattle.node_arena.specs.Moves.{tree_nodes}
use Rattle.bind_meaning.specs.Currencies.{Currencies}
use Rattle.bind_seats.proofs.AttributeLemmas.{long}
use Rattle.bind_seats.proofs.NumberedPicksLemmas.{within, same_currencies}
use Rattle.bind_seats.proofs.numbered_picks.number_occurrences.Goals as goal

pub named-requires : goal.named-requires
named-requires g c = within _ _ (long c.args.doc.now) c.nodes_are_sound.ensures c.args.table.now c.as_slice.result.now
    (c.as_slice.ensures.value ∙ c.requires.picks)

pub seats_of-requires-clause-named : goal.seats_of-requires-clause-named
seats_of-requires-clause-named g c =
    same_currencies (tree_nodes c.args.doc.now) c.nodes_are_sound.ensures c.rows-rows.result.now c.args.table.now c.rows-rows.ensures c.as_slice.result.now
    (c.as_slice.ensures.value ∙ c.requires.picks) _ _
    c.in_ok-named.ensures.invoice c.in_ok-named.ensures.accounting

pub returns-in-Ok-clause-currency : goal.returns-in-Ok-clause-currency
returns-in-Ok-clause-currency g c =
    ap (λ (x : Currencies). x.invoice)
    (same_currencies (tree_nodes c.args.doc.now) c.nodes_are_sound.ensures c.rows-rows.result.now c.args.table.now c.rows-rows.ensures c.as_slice.result.now
    (c.as_slice.ensures.value ∙ c.requires.picks) _ _
    c.in_ok-named.ensures.invoice c.in_ok-named.ensures.accounting)
