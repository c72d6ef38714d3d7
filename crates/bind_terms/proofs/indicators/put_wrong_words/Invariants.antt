use Rattle.bind_terms.proofs.WordLemmas.{Worded}
use Rattle.bind_terms.specs.Inputs.{nodes_of}
use Rattle.bind_terms.proofs.indicators.put_wrong_words.Given as goal

abbrev pub invariant-indicators : goal.invariant-indicators
invariant-indicators g l = Worded (nodes_of l.input) l.indicators l.input.table.now (g.K.Keeper.given l.initial.keeper) l.picked-index
    (g.K.Keeper.given l.keeper)
