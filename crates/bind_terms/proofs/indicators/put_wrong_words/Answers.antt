use Rattle.std.proofs.Common.{arith}
use Rattle.bind_terms.proofs.WordLemmas.{worded-none, worded-more, worded-all}
use Rattle.bind_terms.specs.Inputs.{nodes_of}
use Rattle.bind_terms.proofs.indicators.put_wrong_words.Goals as goal

pub indicators-init : goal.indicators-init
indicators-init g c = worded-none (nodes_of c.args.input.now) c.args.indicators.now c.args.input.now.table.now (g.K.Keeper.given c.args.keeper.now)

pub indicators-preserved : goal.indicators-preserved
indicators-preserved g c =
    worded-more (nodes_of c.args.input.now) c.args.indicators.now c.args.input.now.table.now (g.K.Keeper.given c.args.keeper.now) c.indicators.picked-index
    (g.K.Keeper.given c.indicators.keeper)
    (g.K.Keeper.given c.put_word.new.keeper) c.picked-item.result (omega arith) c.picked-item.is c.indicators.invariant c.in_ok-put_word.ensures

pub returns : goal.returns
returns g c =
    worded-all (nodes_of c.args.input.now) c.args.indicators.now c.args.input.now.table.now (g.K.Keeper.given c.args.keeper.now) c.indicators.picked-index
    (g.K.Keeper.given c.indicators.keeper) (omega arith)
    c.indicators.invariant
