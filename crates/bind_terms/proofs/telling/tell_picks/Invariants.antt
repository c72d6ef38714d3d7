use Rattle.bind_terms.proofs.Pass.{Passed}
use Rattle.bind_terms.specs.Inputs.{currency_of, nodes_of}
use Rattle.bind_terms.proofs.telling.tell_picks.Given as goal

abbrev pub invariant-picks : goal.invariant-picks
invariant-picks g l =
    Passed (nodes_of l.input) l.input.lists.now (currency_of l.input) l.picks l.input.table.now l.pick-index l.firsts.entries
    (g.K.Keeper.given l.keeper)
