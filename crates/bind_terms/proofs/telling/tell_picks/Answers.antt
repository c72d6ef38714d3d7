use Rattle.std.proofs.Common.{sym, subst, arith}
use Rattle.std.proofs.lemmas.List.Elements.{All-get_or}
use Rattle.node_arena.specs.Moves.{tree_nodes}
use Rattle.bind_terms.specs.Steps.{SaysPlaced}
use Rattle.bind_terms.proofs.Pass.{passed-none, passed-more, passed-all}
use Rattle.bind_terms.proofs.telling.tell_picks.Goals as goal

pub picks-init : goal.picks-init
picks-init g c = passed-none _ _ _ _ _ _ (g.K.Keeper.given c.args.keeper.now) c.requires.empty c.requires.none

pub tell_pick-requires-clause-placed : goal.tell_pick-requires-clause-placed
tell_pick-requires-clause-placed g c =
    subst (SaysPlaced (tree_nodes c.args.input.now.doc.now) c.args.input.now.table.now) (sym c.pick-item.is)
    (All-get_or (SaysPlaced (tree_nodes c.args.input.now.doc.now) c.args.input.now.table.now) c.args.picks.now c.picks.pick-index c.pick-item.result
    (omega arith) c.requires.placed)

pub picks-preserved : goal.picks-preserved
picks-preserved g c =
    passed-more _ _ _ _ _ c.picks.pick-index _ _ (g.K.Keeper.given c.picks.keeper) (g.K.Keeper.given c.tell_pick.new.keeper) c.pick-item.result
    (omega arith) c.pick-item.is c.picks.invariant
    c.in_ok-tell_pick.ensures

pub returns : goal.returns
returns g c = passed-all _ _ _ _ _ c.picks.pick-index _ (g.K.Keeper.given c.picks.keeper) (omega arith) c.picks.invariant
